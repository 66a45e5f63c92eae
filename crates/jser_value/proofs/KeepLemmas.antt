-- A tree adds entries to the table of handles and changes none that was there.
use Rattle.std.proofs.Common.{◌≡◌, true, ℕ, zero, suc, ◌<◌, ◌≤◌, List, [], ◌∷◌, ◌++◌, length, refl, sym, ap, ◌∙◌, arith, Option, Some, None, slice_get, slice_set, IsTrue, subst}
use Rattle.jser_grammar.proofs.Vocabulary.{TableEntry, text_entry, other_entry, pending_entry, closed_entry, is_pending, is_closed, chain_of, chain_at, Layer, TextPlaceTree, new_text, back_text, FieldTree, ValueTree, null, back, string, descriptor, class_object, array, enum_constant, object, DescTree, plain, proxy, ClassPlaceTree, no_class, back_class, new_class, BodyTree, raw_body, value_body, ValueTrees, no_values, value_and, section, SectionTree, SectionTrees, no_sections, section_and, NotesTree, no_notes, annotation, block, reset, content, ContentTrees, no_contents, content_and, Entries, add, close, plain_layer, proxy_layer, after_text_place, after_type, after_fields, after_value, after_desc, after_class, after_body, after_values, after_sections, after_notes, after_contents, chain_of_class, chain_of_desc}
use Rattle.jser_grammar.proofs.TableLemmas.{length-add, slice_get-slice_set}
use Rattle.jser_table.specs.Tables.{closed_under}
use Rattle.jser_value.specs.Tests.{IsClassAt, IsParentAt, after_section}

-- each entry of `old` stands in `new`, under its number
pub record Keeps (old new : Entries) : Type 0 where
  pub longer : length old ≤ length new
  pub kept : (k : ℕ) → k < length old → slice_get new k ≡ slice_get old k

pub keeps_all : (T : Entries) → Keeps T T
keeps_all T = record { longer = omega arith; kept = λ k h. refl }

pub keeps_more : (T U V : Entries) → Keeps T U → Keeps U V → Keeps T V
keeps_more T U V first second =
    let longer = first.longer in
    record { longer = omega (arith, first.longer, second.longer); kept = λ k h. second.kept k (omega (arith, longer)) ∙ first.kept k h }

kept_add : (T : Entries) (x : TableEntry) (k : ℕ) → k < length T → slice_get (add T x) k ≡ slice_get T k
kept_add [] x k h = absurd (omega arith)
kept_add (e ∷ T) x zero h = refl
kept_add (e ∷ T) x (suc k) h = kept_add T x k (omega arith)

pub keeps_add : (T : Entries) (x : TableEntry) → Keeps T (add T x)
keeps_add T x = record { longer = omega (arith, length-add T x); kept = kept_add T x }

kept_set : (T : Entries) (n k : ℕ) (x : TableEntry) → k < n → slice_get (slice_set T n x) k ≡ slice_get T k
kept_set [] n k x h = refl
kept_set (e ∷ T) zero k x h = absurd (omega arith)
kept_set (e ∷ T) (suc n) zero x h = refl
kept_set (e ∷ T) (suc n) (suc k) x h = kept_set T n k x (omega arith)

length_set : (T : Entries) (n : ℕ) (x : TableEntry) → length (slice_set T n x) ≡ length T
length_set [] n x = refl
length_set (e ∷ T) zero x = refl
length_set (e ∷ T) (suc n) x = ap (λ n. suc n) (length_set T n x)

-- the entry behind all of `T` is set
keeps_close : (T U : Entries) (chain : List Layer) → Keeps T U → Keeps T (close U (length T) chain)
keeps_close T U chain h =
    record {
      longer = omega (arith, h.longer, length_set U (length T) (closed_entry chain));
      kept = λ k l. kept_set U (length T) k (closed_entry chain) l ∙ h.kept k l;
    }

keeps_text : (t : TextPlaceTree) (T : Entries) → Keeps T (after_text_place T t)
keeps_text (new_text t) T = keeps_add T text_entry
keeps_text (back_text n) T = keeps_all T

keeps_type : (t : Option TextPlaceTree) (T : Entries) → Keeps T (after_type T t)
keeps_type None T = keeps_all T
keeps_type (Some t) T = keeps_text t T

pub keeps_fields : (fs : List FieldTree) (T : Entries) → Keeps T (after_fields T fs)
keeps_fields [] T = keeps_all T
keeps_fields (f ∷ fs) T =
    keeps_more T (after_type T f.text) (after_fields (after_type T f.text) fs) (keeps_type f.text T) (keeps_fields fs (after_type T f.text))

keeps_other : (c : ClassPlaceTree) (T : Entries) → Keeps T (after_class T c) → Keeps T (add (after_class T c) other_entry)
keeps_other c T h = keeps_more T (after_class T c) (add (after_class T c) other_entry) h (keeps_add (after_class T c) other_entry)

mutual
  pub keeps_value : (v : ValueTree) (T : Entries) → Keeps T (after_value T v)
  keeps_value null T = keeps_all T
  keeps_value (back n) T = keeps_all T
  keeps_value (string t) T = keeps_add T text_entry
  keeps_value (descriptor x) T = keeps_desc x T
  keeps_value (class_object c) T = keeps_other c T (keeps_class c T)
  keeps_value (array c b) T =
      let opened = add (after_class T c) other_entry in
      keeps_more T opened (after_body opened b) (keeps_other c T (keeps_class c T)) (keeps_body b opened)
  keeps_value (enum_constant c t) T =
      let opened = add (after_class T c) other_entry in
      keeps_more T opened (after_text_place opened t) (keeps_other c T (keeps_class c T)) (keeps_text t opened)
  keeps_value (object c ss) T =
      let opened = add (after_class T c) other_entry in
      keeps_more T opened (after_sections opened ss) (keeps_other c T (keeps_class c T)) (keeps_sections ss opened)

  pub keeps_desc : (x : DescTree) (T : Entries) → Keeps T (after_desc T x)
  keeps_desc (plain name suid flags fields notes parent) T =
      let opened = add T pending_entry in
      let behind = after_fields opened fields in
      let inside = after_contents behind notes in
      let far = after_class inside parent in
      keeps_close T far (chain_of_class inside parent ++ (plain_layer name flags fields ∷ []))
      (keeps_more T opened far (keeps_add T pending_entry)
      (keeps_more opened behind far (keeps_fields fields opened)
      (keeps_more behind inside far (keeps_contents notes behind) (keeps_class parent inside))))
  keeps_desc (proxy interfaces notes parent) T =
      let opened = add T pending_entry in
      let inside = after_contents opened notes in
      let far = after_class inside parent in
      keeps_close T far (chain_of_class inside parent ++ (proxy_layer ∷ []))
      (keeps_more T opened far (keeps_add T pending_entry)
      (keeps_more opened inside far (keeps_contents notes opened) (keeps_class parent inside)))

  pub keeps_class : (c : ClassPlaceTree) (T : Entries) → Keeps T (after_class T c)
  keeps_class no_class T = keeps_all T
  keeps_class (back_class n) T = keeps_all T
  keeps_class (new_class x) T = keeps_desc x T

  keeps_body : (b : BodyTree) (T : Entries) → Keeps T (after_body T b)
  keeps_body (raw_body ps) T = keeps_all T
  keeps_body (value_body vs) T = keeps_values vs T

  pub keeps_values : (vs : ValueTrees) (T : Entries) → Keeps T (after_values T vs)
  keeps_values no_values T = keeps_all T
  keeps_values (value_and v vs) T = keeps_more T (after_value T v) (after_values (after_value T v) vs) (keeps_value v T) (keeps_values vs (after_value T v))

  keeps_sections : (ss : SectionTrees) (T : Entries) → Keeps T (after_sections T ss)
  keeps_sections no_sections T = keeps_all T
  keeps_sections (section_and (section ps vs n) ss) T =
      let far = after_notes (after_values T vs) n in
      keeps_more T far (after_sections far ss)
      (keeps_more T (after_values T vs) far (keeps_values vs T) (keeps_notes n (after_values T vs))) (keeps_sections ss far)

  pub keeps_notes : (n : NotesTree) (T : Entries) → Keeps T (after_notes T n)
  keeps_notes no_notes T = keeps_all T
  keeps_notes (annotation cs) T = keeps_contents cs T

  pub keeps_contents : (cs : ContentTrees) (T : Entries) → Keeps T (after_contents T cs)
  keeps_contents no_contents T = keeps_all T
  keeps_contents (content_and (block long bytes) cs) T = keeps_contents cs T
  keeps_contents (content_and reset cs) T = keeps_contents cs T
  keeps_contents (content_and (content v) cs) T =
      keeps_more T (after_value T v) (after_contents (after_value T v) cs) (keeps_value v T) (keeps_contents cs (after_value T v))

within : (T : Entries) (k : ℕ) → IsTrue (is_pending (slice_get T k)) → k < length T
within [] k h = absurd (cc)
within (e ∷ T) zero h = omega arith
within (e ∷ T) (suc k) h = omega (arith, within T k h)

closed_within : (T : Entries) (k : ℕ) → IsTrue (is_closed (slice_get T k)) → k < length T
closed_within [] k h = absurd (cc)
closed_within (e ∷ T) zero h = omega arith
closed_within (e ∷ T) (suc k) h = omega (arith, closed_within T k h)

pending_added : (T : Entries) → slice_get (add T pending_entry) (length T) ≡ Some pending_entry
pending_added [] = refl
pending_added (e ∷ T) = pending_added T

-- a class keeps its place and its chain
pub class_kept : (T U : Entries) (n : ℕ) (chain : List Layer) → Keeps T U → IsClassAt T n chain → IsClassAt U n chain
class_kept T U n chain keeps class =
    let same = keeps.kept n (closed_within T n class.closed) in
    record { closed = ap is_closed same ∙ class.closed; chain_is = ap chain_of same ∙ class.chain_is }

pub class_behind_add : (T U : Entries) (x : TableEntry) (n : ℕ) (chain : List Layer) → U ≡ add T x → IsClassAt T n chain → IsClassAt U n chain
class_behind_add T U x n chain e class = class_kept T U n chain (subst (λ (V : Entries). Keeps T V) (sym e) (keeps_add T x)) class

-- a descriptor is pending until it is closed
pending_kept : (T U : Entries) → Keeps (add T pending_entry) U → IsTrue (is_pending (slice_get U (length T)))
pending_kept T U keeps = ap is_pending (keeps.kept (length T) (omega (arith, length-add T pending_entry)) ∙ pending_added T)

pub pending_plain : (T : Entries) (fields : List FieldTree) (notes : ContentTrees) (parent : ClassPlaceTree)
    → IsTrue (is_pending (slice_get (after_class (after_contents (after_fields (add T pending_entry) fields) notes) parent) (length T)))
pending_plain T fields notes parent =
    let opened = add T pending_entry in
    let behind = after_fields opened fields in
    let inside = after_contents behind notes in
    let far = after_class inside parent in
    pending_kept T far (keeps_more opened behind far (keeps_fields fields opened) (keeps_more behind inside far (keeps_contents notes behind) (keeps_class parent inside)))

pub pending_proxy : (T : Entries) (notes : ContentTrees) (parent : ClassPlaceTree)
    → IsTrue (is_pending (slice_get (after_class (after_contents (add T pending_entry) notes) parent) (length T)))
pending_proxy T notes parent =
    let opened = add T pending_entry in
    let inside = after_contents opened notes in
    let far = after_class inside parent in
    pending_kept T far (keeps_more opened inside far (keeps_contents notes opened) (keeps_class parent inside))

-- and then it is a class
pub class_closed : (T : Entries) (n : ℕ) (chain : List Layer) → IsTrue (is_pending (slice_get T n)) → IsClassAt (slice_set T n (closed_entry chain)) n chain
class_closed T n chain h =
    let found = slice_get-slice_set T n (closed_entry chain) (within T n h) in
    record { closed = ap is_closed found; chain_is = ap chain_of found }

-- the layer of a class behind the chain of its parent
pub class_made : (T U : Entries) (n : ℕ) (above : Option ℕ) (layer : Layer) (chain : List Layer) → IsTrue (is_pending (slice_get T n))
    → U ≡ slice_set T n (closed_under T above layer) → IsParentAt T chain above → IsClassAt U n (chain ++ (layer ∷ []))
class_made T U n None layer chain h e parent =
    subst (λ (V : Entries). IsClassAt V n (chain ++ (layer ∷ []))) (sym e)
    (subst (λ (c : List Layer). IsClassAt (slice_set T n (closed_entry ([] ++ (layer ∷ [])))) n (c ++ (layer ∷ []))) (sym parent) (class_closed T n ([] ++ (layer ∷ [])) h))
class_made T U n (Some p) layer chain h e parent =
    subst (λ (V : Entries). IsClassAt V n (chain ++ (layer ∷ []))) (sym e)
    (subst (λ (c : List Layer). IsClassAt (slice_set T n (closed_entry (chain_at T p ++ (layer ∷ [])))) n (c ++ (layer ∷ []))) parent.chain_is
    (class_closed T n (chain_at T p ++ (layer ∷ [])) h))

pub class_behind_section : (T U : Entries) (s : SectionTree) (n : ℕ) (chain : List Layer) → U ≡ after_section T s → IsClassAt T n chain → IsClassAt U n chain
class_behind_section T U (section ps vs notes) n chain e class =
    let keeps = keeps_more T (after_values T vs) (after_notes (after_values T vs) notes) (keeps_values vs T) (keeps_notes notes (after_values T vs)) in
    class_kept T U n chain (subst (λ (V : Entries). Keeps T V) (sym e) keeps) class

-- a new descriptor that was read is a class
pub class_plain : (T T1 T2 T3 T4 T5 : Entries) (n : ℕ) (above : Option ℕ) (layer : Layer) (name : List ℕ) (suid flags : ℕ) (fields : List FieldTree)
    (notes : ContentTrees) (parent : ClassPlaceTree) (x : DescTree)
    → n ≡ length T → T1 ≡ add T pending_entry → T2 ≡ after_fields T1 fields → T3 ≡ after_contents T2 notes → T4 ≡ after_class T3 parent
    → IsParentAt T4 (chain_of_class T3 parent) above → layer ≡ plain_layer name flags fields → T5 ≡ slice_set T4 n (closed_under T4 above layer)
    → x ≡ plain name suid flags fields notes parent → IsClassAt T5 n (chain_of_desc T x)
class_plain T T1 T2 T3 T4 T5 n above layer name suid flags fields notes parent x number e1 e2 e3 e4 p l e5 ex =
    let open_kept = pending_plain T fields notes parent in
    let is_open : is_pending (slice_get T4 n) ≡ true = cc in
    let made = class_made T4 T5 n above layer (chain_of_class T3 parent) is_open e5 p in
    let same : chain_of_class T3 parent ++ (layer ∷ []) ≡ chain_of_desc T (plain name suid flags fields notes parent) = cc in
    subst (λ (y : DescTree). IsClassAt T5 n (chain_of_desc T y)) (sym ex) (subst (λ (chain : List Layer). IsClassAt T5 n chain) same made)

pub class_proxy : (T T1 T3 T4 T5 : Entries) (n : ℕ) (above : Option ℕ) (layer : Layer) (interfaces : List (List ℕ)) (notes : ContentTrees)
    (parent : ClassPlaceTree) (x : DescTree)
    → n ≡ length T → T1 ≡ add T pending_entry → T3 ≡ after_contents T1 notes → T4 ≡ after_class T3 parent
    → IsParentAt T4 (chain_of_class T3 parent) above → layer ≡ proxy_layer → T5 ≡ slice_set T4 n (closed_under T4 above layer)
    → x ≡ proxy interfaces notes parent → IsClassAt T5 n (chain_of_desc T x)
class_proxy T T1 T3 T4 T5 n above layer interfaces notes parent x number e1 e3 e4 p l e5 ex =
    let open_kept = pending_proxy T notes parent in
    let is_open : is_pending (slice_get T4 n) ≡ true = cc in
    let made = class_made T4 T5 n above layer (chain_of_class T3 parent) is_open e5 p in
    let same : chain_of_class T3 parent ++ (layer ∷ []) ≡ chain_of_desc T (proxy interfaces notes parent) = cc in
    subst (λ (y : DescTree). IsClassAt T5 n (chain_of_desc T y)) (sym ex) (subst (λ (chain : List Layer). IsClassAt T5 n chain) same made)
