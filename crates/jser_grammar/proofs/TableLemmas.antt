-- The table of handles: a tree never makes it shorter, and a new descriptor finds its chain in its entry.
use Rattle.std.proofs.Common.{◌≡◌, ℕ, zero, suc, ◌<◌, ◌≤◌, List, [], ◌∷◌, ◌++◌, length, refl, ap, arith, Option, Some, None, slice_get, slice_set}
use Rattle.jser_grammar.proofs.Vocabulary.{TableEntry, text_entry, other_entry, pending_entry, closed_entry, chain_of, chain_at, Layer, TextPlaceTree, new_text, back_text, FieldTree, ValueTree, null, back, string, descriptor, class_object, array, enum_constant, object, DescTree, plain, proxy, ClassPlaceTree, no_class, back_class, new_class, BodyTree, raw_body, value_body, ValueTrees, no_values, value_and, section, SectionTrees, no_sections, section_and, NotesTree, no_notes, annotation, block, reset, content, ContentTrees, no_contents, content_and, Entries, add, close, plain_layer, proxy_layer, after_text_place, after_type, after_fields, after_value, after_desc, after_class, after_body, after_values, after_sections, after_notes, after_contents, chain_of_class, chain_of_desc}
use Rattle.std.proofs.Common.{length-set}

pub slice_get-slice_set : (T : Entries) (k : ℕ) (x : TableEntry) → k < length T → slice_get (slice_set T k x) k ≡ Some x
slice_get-slice_set [] k x h = absurd (omega arith)
slice_get-slice_set (e ∷ T) zero x h = refl
slice_get-slice_set (e ∷ T) (suc k) x h = slice_get-slice_set T k x (omega arith)

pub length-add : (T : Entries) (x : TableEntry) → length (add T x) ≡ suc (length T)
length-add [] x = refl
length-add (e ∷ T) x = ap (λ n. suc n) (length-add T x)

pub length-close : (T : Entries) (k : ℕ) (c : List Layer) → length (close T k c) ≡ length T
length-close T k c = length-set T k (closed_entry c)

grows_add : (T : Entries) (x : TableEntry) → length T ≤ length (add T x)
grows_add T x = omega (arith, length-add T x)

grows_text : (t : TextPlaceTree) (T : Entries) → length T ≤ length (after_text_place T t)
grows_text (new_text t) T = grows_add T text_entry
grows_text (back_text n) T = omega arith

grows_type : (t : Option TextPlaceTree) (T : Entries) → length T ≤ length (after_type T t)
grows_type None T = omega arith
grows_type (Some t) T = grows_text t T

pub grows_fields : (fs : List FieldTree) (T : Entries) → length T ≤ length (after_fields T fs)
grows_fields [] T = omega arith
grows_fields (f ∷ fs) T = omega (arith, grows_type f.text T, grows_fields fs (after_type T f.text))

mutual
  pub grows_value : (v : ValueTree) (T : Entries) → length T ≤ length (after_value T v)
  grows_value null T = omega arith
  grows_value (back n) T = omega arith
  grows_value (string t) T = grows_add T text_entry
  grows_value (descriptor x) T = grows_desc x T
  grows_value (class_object c) T = omega (arith, grows_class c T, grows_add (after_class T c) other_entry)
  grows_value (array c b) T =
      omega (arith, grows_class c T, grows_add (after_class T c) other_entry, grows_body b (add (after_class T c) other_entry))
  grows_value (enum_constant c t) T =
      omega (arith, grows_class c T, grows_add (after_class T c) other_entry, grows_text t (add (after_class T c) other_entry))
  grows_value (object c ss) T =
      omega (
        arith,
        grows_class c T,
        grows_add (after_class T c) other_entry,
        grows_sections ss
            (add (after_class T c) other_entry),
      )

  pub grows_desc : (x : DescTree) (T : Entries) → length T ≤ length (after_desc T x)
  grows_desc (plain name suid flags fields notes parent) T =
      let opened = add T pending_entry in
      let behind = after_fields opened fields in
      let inside = after_contents behind notes in
      omega (
        arith,
        grows_add T pending_entry,
        grows_fields fields opened,
        grows_contents notes behind,
        grows_class parent inside,
        length-close (after_class inside parent) (length T) (chain_of_class inside parent
            ++ (plain_layer name flags fields ∷ [])),
      )
  grows_desc (proxy interfaces notes parent) T =
      let opened = add T pending_entry in
      let inside = after_contents opened notes in
      omega (
        arith,
        grows_add T pending_entry,
        grows_contents notes opened,
        grows_class parent inside,
        length-close (after_class inside parent) (length T) (chain_of_class inside parent ++ (proxy_layer ∷ [])),
      )

  pub grows_class : (c : ClassPlaceTree) (T : Entries) → length T ≤ length (after_class T c)
  grows_class no_class T = omega arith
  grows_class (back_class n) T = omega arith
  grows_class (new_class x) T = grows_desc x T

  pub grows_body : (b : BodyTree) (T : Entries) → length T ≤ length (after_body T b)
  grows_body (raw_body ps) T = omega arith
  grows_body (value_body vs) T = grows_values vs T

  pub grows_values : (vs : ValueTrees) (T : Entries) → length T ≤ length (after_values T vs)
  grows_values no_values T = omega arith
  grows_values (value_and v vs) T = omega (arith, grows_value v T, grows_values vs (after_value T v))

  pub grows_sections : (ss : SectionTrees) (T : Entries) → length T ≤ length (after_sections T ss)
  grows_sections no_sections T = omega arith
  grows_sections (section_and (section ps vs n) ss) T =
      omega (arith, grows_values vs T, grows_notes n (after_values T vs), grows_sections ss (after_notes (after_values T vs) n))

  pub grows_notes : (n : NotesTree) (T : Entries) → length T ≤ length (after_notes T n)
  grows_notes no_notes T = omega arith
  grows_notes (annotation cs) T = grows_contents cs T

  pub grows_contents : (cs : ContentTrees) (T : Entries) → length T ≤ length (after_contents T cs)
  grows_contents no_contents T = omega arith
  grows_contents (content_and (block long bytes) cs) T = grows_contents cs T
  grows_contents (content_and reset cs) T = grows_contents cs T
  grows_contents (content_and (content v) cs) T = omega (arith, grows_value v T, grows_contents cs (after_value T v))

-- the chain of a new descriptor stands in its entry
pub chain_at-after_desc : (x : DescTree) (T : Entries) → chain_at (after_desc T x) (length T) ≡ chain_of_desc T x
chain_at-after_desc (plain name suid flags fields notes parent) T =
    let opened = add T pending_entry in
    let behind = after_fields opened fields in
    let inside = after_contents behind notes in
    ap chain_of (slice_get-slice_set (after_class inside parent) (length T) (closed_entry (chain_of_class inside parent
    ++ (plain_layer name flags fields ∷ [])))
    (omega (arith, length-add T pending_entry, grows_fields fields opened, grows_contents notes behind, grows_class parent inside)))
chain_at-after_desc (proxy interfaces notes parent) T =
    let opened = add T pending_entry in
    let inside = after_contents opened notes in
    ap chain_of (slice_get-slice_set (after_class inside parent) (length T) (closed_entry (chain_of_class inside parent
    ++ (proxy_layer ∷ [])))
    (omega (arith, length-add T pending_entry, grows_contents notes opened, grows_class parent inside)))
