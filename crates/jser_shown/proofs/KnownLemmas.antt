-- What is known of handles stands for the table of handles.
use Rattle.std.proofs.Common.{◌≡◌, ℕ, zero, suc, ◌<◌, ◌==◌, Bool, true, false, if◌then◌else◌, List, [], ◌∷◌, ◌++◌, length, refl, sym, ap, ◌∙◌, arith, Option, Some, None, slice_get, slice_set}
use Rattle.std.proofs.lemmas.Bool.Decides.{nat_tests}
use Rattle.jser_table.specs.Entries.{TableEntry, text_entry, other_entry, pending_entry, closed_entry, chain_at}
use Rattle.jser_table.specs.Names.{NameKind, plain_name, array_name, malformed_name, name_kind, array_kind, array_of_arrays, ends_in, layer_kind}
use Rattle.jser_table.specs.declared.layer.BodyKind.TheVariants.{Values}
use Rattle.jser_table.specs.Chains.{elements_of_kind, elements_of}
use Rattle.jser_grammar.specs.Codes.{prim_code_of}
use Rattle.jser_table.specs.declared.layer.Layer.{Layer}
use Rattle.jser_reading.proofs.Vocabulary.{Entries, add, close, codes_of, plain_layer, after_text_place, after_type, after_fields, after_value, after_desc, after_class, after_body, after_values, after_sections, after_notes, after_contents, chain_of_class, chain_of_desc, is_external, TextPlaceTree, new_text, back_text, FieldTree, ValueTree, null, back, string, descriptor, class_object, array, enum_constant, object, DescTree, plain, proxy, ClassPlaceTree, no_class, back_class, new_class, BodyTree, raw_body, value_body, ValueTrees, no_values, value_and, section, SectionTrees, no_sections, section_and, NotesTree, no_notes, annotation, block, reset, content, ContentTrees, no_contents, content_and}
use Rattle.jser_grammar.specs.TableAfter as value
use Rattle.jser_grammar.proofs.TableLemmas.{length-add, grows_class, grows_contents, grows_fields}
use Rattle.jser_shown.specs.Known.{NamedField, NamedLayer, class_layer, proxy_layer, KnownEntry, known_text, known_other, known_pending, known_class, Known, classes_in, classes_at, with_entry, named_fields, known_text_place, known_type, known_fields, known_value, known_desc, known_class_place, known_body, known_values, known_sections, known_notes, known_contents, classes_of, classes_of_desc, named_elements, elements_of_chain, is_external_chain}

abbrev pub codes_in : List NamedField → List ℕ
codes_in [] = []
codes_in (f ∷ fs) = f.code ∷ codes_in fs

abbrev pub layer_of : NamedLayer → Layer
layer_of (class_layer name flags fields) = record { kind = layer_kind (name_kind name); flags = flags; codes = codes_in fields }
layer_of proxy_layer = value.proxy_layer

abbrev pub layers_of : List NamedLayer → List Layer
layers_of [] = []
layers_of (l ∷ ls) = layer_of l ∷ layers_of ls

abbrev pub entry_of : KnownEntry → TableEntry
entry_of known_text = text_entry
entry_of known_other = other_entry
entry_of known_pending = pending_entry
entry_of (known_class chain) = closed_entry (layers_of chain)

abbrev pub entries : Known → Entries
entries [] = []
entries (k ∷ T) = entry_of k ∷ entries T

pub length-entries : (T : Known) → length (entries T) ≡ length T
length-entries [] = refl
length-entries (k ∷ T) = ap (λ n. suc n) (length-entries T)

entries-with_entry : (T : Known) (k : KnownEntry) → entries (with_entry T k) ≡ add (entries T) (entry_of k)
entries-with_entry [] k = refl
entries-with_entry (x ∷ T) k = ap (λ t. entry_of x ∷ t) (entries-with_entry T k)

entries-set : (T : Known) (n : ℕ) (k : KnownEntry) → entries (slice_set T n k) ≡ slice_set (entries T) n (entry_of k)
entries-set [] n k = refl
entries-set (x ∷ T) zero k = refl
entries-set (x ∷ T) (suc n) k = ap (λ t. entry_of x ∷ t) (entries-set T n k)

layers-append : (a b : List NamedLayer) → layers_of (a ++ b) ≡ layers_of a ++ layers_of b
layers-append [] b = refl
layers-append (l ∷ a) b = ap (λ t. layer_of l ∷ t) (layers-append a b)

codes-named : (fs : List FieldTree) → codes_in (named_fields fs) ≡ codes_of fs
codes-named [] = refl
codes-named (f ∷ fs) = ap (λ t. f.code ∷ t) (codes-named fs)

pub chain-entries : (T : Known) (n : ℕ) → chain_at (entries T) n ≡ layers_of (classes_at T n)
chain-entries [] n = refl
chain-entries (known_text ∷ T) zero = refl
chain-entries (known_other ∷ T) zero = refl
chain-entries (known_pending ∷ T) zero = refl
chain-entries (known_class chain ∷ T) zero = refl
chain-entries (k ∷ T) (suc n) = chain-entries T n

abbrev layer_with : List ℕ → ℕ → List ℕ → Layer
layer_with name flags codes = record { kind = layer_kind (name_kind name); flags = flags; codes = codes }

layer-named : (name : List ℕ) (flags : ℕ) (fields : List FieldTree) → layer_of (class_layer name flags (named_fields fields)) ≡ plain_layer name flags fields
layer-named name flags fields = ap (λ c. layer_with name flags c) (codes-named fields)

layers-one : (l : NamedLayer) (m : Layer) → layer_of l ≡ m → layers_of (l ∷ []) ≡ m ∷ []
layers-one l m e = ap (λ x. x ∷ []) e

entries-text : (t : TextPlaceTree) (T : Known) → entries (known_text_place T t) ≡ after_text_place (entries T) t
entries-text (new_text t) T = entries-with_entry T known_text
entries-text (back_text n) T = refl

entries-type : (t : Option TextPlaceTree) (T : Known) → entries (known_type T t) ≡ after_type (entries T) t
entries-type None T = refl
entries-type (Some t) T = entries-text t T

entries-fields : (fs : List FieldTree) (T : Known) → entries (known_fields T fs) ≡ after_fields (entries T) fs
entries-fields [] T = refl
entries-fields (f ∷ fs) T = entries-fields fs (known_type T f.text) ∙ ap (λ t. after_fields t fs) (entries-type f.text T)

-- a table and the number of an entry
closed_same : (T : Known) (E : Entries) (n k : ℕ) (chain : List NamedLayer) (layers : List Layer) → entries T ≡ E → n ≡ k → layers_of chain ≡ layers
    → entries (slice_set T n (known_class chain)) ≡ close E k layers
closed_same T E n k chain layers e f g =
    entries-set T n (known_class chain) ∙ ap (λ t. slice_set t n (closed_entry (layers_of chain))) e
    ∙ ap (λ i. slice_set E i (closed_entry (layers_of chain))) f ∙ ap (λ c. slice_set E k (closed_entry c)) g

chain_same : (a b : List NamedLayer) (x : List Layer) (l : NamedLayer) (m : Layer) → layers_of a ≡ x → layer_of l ≡ m → layers_of (a ++ (l ∷ [])) ≡ x ++ (m ∷ [])
chain_same a b x l m e f = layers-append a (l ∷ []) ∙ ap (λ t. t ++ layers_of (l ∷ [])) e ∙ ap (λ t. x ++ t) (layers-one l m f)

mutual
  pub entries-value : (v : ValueTree) (T : Known) → entries (known_value T v) ≡ after_value (entries T) v
  entries-value null T = refl
  entries-value (back n) T = refl
  entries-value (string t) T = entries-with_entry T known_text
  entries-value (descriptor d) T = entries-desc d T
  entries-value (class_object c) T = entries-with_entry (known_class_place T c) known_other ∙ ap (λ t. add t other_entry) (entries-class c T)
  entries-value (array c b) T =
      entries-body b (with_entry (known_class_place T c) known_other) ∙ ap (λ t. after_body t b)
      (entries-with_entry (known_class_place T c) known_other ∙ ap (λ t. add t other_entry) (entries-class c T))
  entries-value (enum_constant c x) T =
      entries-text x (with_entry (known_class_place T c) known_other) ∙ ap (λ t. after_text_place t x)
      (entries-with_entry (known_class_place T c) known_other ∙ ap (λ t. add t other_entry) (entries-class c T))
  entries-value (object c ss) T =
      entries-sections ss (with_entry (known_class_place T c) known_other) ∙ ap (λ t. after_sections t ss)
      (entries-with_entry (known_class_place T c) known_other ∙ ap (λ t. add t other_entry) (entries-class c T))

  pub entries-desc : (d : DescTree) (T : Known) → entries (known_desc T d) ≡ after_desc (entries T) d
  entries-desc (plain name suid flags fields notes parent) T =
      let opened = with_entry T known_pending in
      let opened_fields = known_fields opened fields in
      let inside = known_contents opened_fields notes in
      let e : entries inside ≡ after_contents (after_fields (add (entries T) pending_entry) fields) notes =
      entries-contents notes opened_fields ∙ ap (λ t. after_contents t notes) (entries-fields fields opened ∙ ap (λ t. after_fields t fields) (entries-with_entry T known_pending)) in
      closed_same (known_class_place inside parent) (after_class (after_contents (after_fields (add (entries T) pending_entry) fields) notes) parent) (length T) (length (entries T))
      (classes_of inside parent ++ (class_layer name flags (named_fields fields) ∷ []))
      (chain_of_class (after_contents (after_fields (add (entries T) pending_entry) fields) notes) parent ++ (plain_layer name flags fields ∷ []))
      (entries-class parent inside ∙ ap (λ t. after_class t parent) e) (sym (length-entries T))
      (chain_same (classes_of inside parent) [] (chain_of_class (after_contents (after_fields (add (entries T) pending_entry) fields) notes) parent) (class_layer name flags (named_fields fields)) (plain_layer name flags fields)
      (layers-class parent inside ∙ ap (λ t. chain_of_class t parent) e) (layer-named name flags fields))
  entries-desc (proxy interfaces notes parent) T =
      let opened = with_entry T known_pending in
      let inside = known_contents opened notes in
      let e : entries inside ≡ after_contents (add (entries T) pending_entry) notes =
      entries-contents notes opened ∙ ap (λ t. after_contents t notes) (entries-with_entry T known_pending) in
      closed_same (known_class_place inside parent) (after_class (after_contents (add (entries T) pending_entry) notes) parent) (length T) (length (entries T))
      (classes_of inside parent ++ (proxy_layer ∷ [])) (chain_of_class (after_contents (add (entries T) pending_entry) notes) parent ++ (value.proxy_layer ∷ []))
      (entries-class parent inside ∙ ap (λ t. after_class t parent) e) (sym (length-entries T))
      (chain_same (classes_of inside parent) [] (chain_of_class (after_contents (add (entries T) pending_entry) notes) parent) proxy_layer value.proxy_layer
      (layers-class parent inside ∙ ap (λ t. chain_of_class t parent) e) refl)

  pub entries-class : (c : ClassPlaceTree) (T : Known) → entries (known_class_place T c) ≡ after_class (entries T) c
  entries-class no_class T = refl
  entries-class (back_class n) T = refl
  entries-class (new_class d) T = entries-desc d T

  pub entries-body : (b : BodyTree) (T : Known) → entries (known_body T b) ≡ after_body (entries T) b
  entries-body (raw_body ps) T = refl
  entries-body (value_body vs) T = entries-values vs T

  pub entries-values : (vs : ValueTrees) (T : Known) → entries (known_values T vs) ≡ after_values (entries T) vs
  entries-values no_values T = refl
  entries-values (value_and v vs) T = entries-values vs (known_value T v) ∙ ap (λ t. after_values t vs) (entries-value v T)

  pub entries-sections : (ss : SectionTrees) (T : Known) → entries (known_sections T ss) ≡ after_sections (entries T) ss
  entries-sections no_sections T = refl
  entries-sections (section_and (section ps vs n) ss) T =
      entries-sections ss (known_notes (known_values T vs) n) ∙ ap (λ t. after_sections t ss)
      (entries-notes n (known_values T vs) ∙ ap (λ t. after_notes t n) (entries-values vs T))

  pub entries-notes : (n : NotesTree) (T : Known) → entries (known_notes T n) ≡ after_notes (entries T) n
  entries-notes no_notes T = refl
  entries-notes (annotation cs) T = entries-contents cs T

  pub entries-contents : (cs : ContentTrees) (T : Known) → entries (known_contents T cs) ≡ after_contents (entries T) cs
  entries-contents no_contents T = refl
  entries-contents (content_and (block long bytes) cs) T = entries-contents cs T
  entries-contents (content_and reset cs) T = entries-contents cs T
  entries-contents (content_and (content v) cs) T = entries-contents cs (known_value T v) ∙ ap (λ t. after_contents t cs) (entries-value v T)

  pub layers-class : (c : ClassPlaceTree) (T : Known) → layers_of (classes_of T c) ≡ chain_of_class (entries T) c
  layers-class no_class T = refl
  layers-class (back_class n) T = sym (chain-entries T n)
  layers-class (new_class d) T = layers-desc d T

  pub layers-desc : (d : DescTree) (T : Known) → layers_of (classes_of_desc T d) ≡ chain_of_desc (entries T) d
  layers-desc (plain name suid flags fields notes parent) T =
      let opened = with_entry T known_pending in
      let opened_fields = known_fields opened fields in
      let inside = known_contents opened_fields notes in
      let e : entries inside ≡ after_contents (after_fields (add (entries T) pending_entry) fields) notes =
      entries-contents notes opened_fields ∙ ap (λ t. after_contents t notes) (entries-fields fields opened ∙ ap (λ t. after_fields t fields) (entries-with_entry T known_pending)) in
      chain_same (classes_of inside parent) [] (chain_of_class (after_contents (after_fields (add (entries T) pending_entry) fields) notes) parent) (class_layer name flags (named_fields fields)) (plain_layer name flags fields)
      (layers-class parent inside ∙ ap (λ t. chain_of_class t parent) e) (layer-named name flags fields)
  layers-desc (proxy interfaces notes parent) T =
      let opened = with_entry T known_pending in
      let inside = known_contents opened notes in
      let e : entries inside ≡ after_contents (add (entries T) pending_entry) notes =
      entries-contents notes opened ∙ ap (λ t. after_contents t notes) (entries-with_entry T known_pending) in
      chain_same (classes_of inside parent) [] (chain_of_class (after_contents (add (entries T) pending_entry) notes) parent) proxy_layer value.proxy_layer
      (layers-class parent inside ∙ ap (λ t. chain_of_class t parent) e) refl

-- a new class finds its chain in its entry

get-set : (T : Known) (k : ℕ) (x : KnownEntry) → k < length T → slice_get (slice_set T k x) k ≡ Some x
get-set [] k x h = absurd (omega arith)
get-set (e ∷ T) zero x h = refl
get-set (e ∷ T) (suc k) x h = get-set T k x (omega arith)

pub grows_known_plain : (fields : List FieldTree) (notes : ContentTrees) (parent : ClassPlaceTree) (T : Known)
    → length T < length (known_class_place (known_contents (known_fields (with_entry T known_pending) fields) notes) parent)
grows_known_plain fields notes parent T =
    let a = add (entries T) pending_entry in
    let b = after_fields a fields in
    let c = after_contents b notes in
    let e : entries (known_contents (known_fields (with_entry T known_pending) fields) notes) ≡ c =
    entries-contents notes (known_fields (with_entry T known_pending) fields) ∙ ap (λ t. after_contents t notes) (entries-fields fields (with_entry T known_pending) ∙ ap (λ t. after_fields t fields) (entries-with_entry T known_pending)) in
    let f : entries (known_class_place (known_contents (known_fields (with_entry T known_pending) fields) notes) parent) ≡ after_class c parent =
    entries-class parent (known_contents (known_fields (with_entry T known_pending) fields) notes) ∙ ap (λ t. after_class t parent) e in
    omega (
      arith,
      length-entries T,
      length-add (entries T) pending_entry,
      grows_fields fields a,
      grows_contents notes b,
      grows_class parent c,
      length-entries (known_class_place (known_contents (known_fields (with_entry T known_pending) fields) notes) parent),
      ap length f,
    )

pub classes_at-known_desc : (d : DescTree) (T : Known) → classes_at (known_desc T d) (length T) ≡ classes_of_desc T d
classes_at-known_desc (plain name suid flags fields notes parent) T =
    let inside = known_contents (known_fields (with_entry T known_pending) fields) notes in
    ap classes_in (get-set (known_class_place inside parent) (length T) (known_class (classes_of inside parent ++ (class_layer name flags (named_fields fields) ∷ [])))
    (grows_known_plain fields notes parent T))
classes_at-known_desc (proxy interfaces notes parent) T =
    let inside = known_contents (with_entry T known_pending) notes in
    ap classes_in (get-set (known_class_place inside parent) (length T) (known_class (classes_of inside parent ++ (proxy_layer ∷ [])))
    (grows_known_plain [] notes parent T))

-- the own class of a chain
pub external-known : (chain : List NamedLayer) → is_external (layers_of chain) ≡ is_external_chain chain
external-known [] = refl
external-known (class_layer name flags fields ∷ []) = refl
external-known (proxy_layer ∷ []) = refl
external-known (a ∷ b ∷ chain) = external-known (b ∷ chain)

-- the type of the elements of an array class, by its name

elements-letter : (c : ℕ) → elements_of_kind (layer_kind (array_kind (c ∷ []))) ≡ prim_code_of c
elements-letter c = grind (arith, nat_tests)

elements-longer : (c d : ℕ) (units : List ℕ) → elements_of_kind (layer_kind (array_kind (c ∷ d ∷ units))) ≡ None
elements-longer c d units = tested (c == 0x5B) (c == 0x4C) (ends_in 0x3B (d ∷ units)) (array_kind (d ∷ units))
  where
    tested : (outer letter last : Bool) (inner : NameKind)
        → elements_of_kind (layer_kind (if outer then array_of_arrays inner else (if letter then (if last then array_name Values else malformed_name) else malformed_name))) ≡ None
    tested true letter last plain_name = refl
    tested true letter last (array_name body) = refl
    tested true letter last malformed_name = refl
    tested false true true inner = refl
    tested false true false inner = refl
    tested false false last inner = refl

elements-named : (name : List ℕ) → elements_of_kind (layer_kind (name_kind name)) ≡ named_elements name
elements-named [] = refl
elements-named (b ∷ []) = opened (b == 0x5B)
  where
    opened : (t : Bool) → elements_of_kind (layer_kind (if t then array_kind [] else plain_name)) ≡ None
    opened true = refl
    opened false = refl
elements-named (b ∷ c ∷ []) = opened (b == 0x5B)
  where
    opened : (t : Bool) → elements_of_kind (layer_kind (if t then array_kind (c ∷ []) else plain_name)) ≡ (if t then prim_code_of c else None)
    opened true = elements-letter c
    opened false = refl
elements-named (b ∷ c ∷ d ∷ units) = opened (b == 0x5B)
  where
    opened : (t : Bool) → elements_of_kind (layer_kind (if t then array_kind (c ∷ d ∷ units) else plain_name)) ≡ None
    opened true = elements-longer c d units
    opened false = refl

pub elements-known : (chain : List NamedLayer) → elements_of (layers_of chain) ≡ elements_of_chain chain
elements-known [] = refl
elements-known (class_layer name flags fields ∷ []) = elements-named name
elements-known (proxy_layer ∷ []) = refl
elements-known (a ∷ b ∷ chain) = elements-known (b ∷ chain)

-- the same, after a tree, for a table that what is known stands for

pub then_entry : (k : KnownEntry) (T : Known) (E : Entries) → E ≡ entries T → add E (entry_of k) ≡ entries (with_entry T k)
then_entry k T E e = ap (λ t. add t (entry_of k)) e ∙ sym (entries-with_entry T k)

pub then_fields : (fs : List FieldTree) (T : Known) (E : Entries) → E ≡ entries T → after_fields E fs ≡ entries (known_fields T fs)
then_fields fs T E e = ap (λ t. after_fields t fs) e ∙ sym (entries-fields fs T)

pub then_value : (v : ValueTree) (T : Known) (E : Entries) → E ≡ entries T → after_value E v ≡ entries (known_value T v)
then_value v T E e = ap (λ t. after_value t v) e ∙ sym (entries-value v T)

pub then_class : (c : ClassPlaceTree) (T : Known) (E : Entries) → E ≡ entries T → after_class E c ≡ entries (known_class_place T c)
then_class c T E e = ap (λ t. after_class t c) e ∙ sym (entries-class c T)

pub then_values : (vs : ValueTrees) (T : Known) (E : Entries) → E ≡ entries T → after_values E vs ≡ entries (known_values T vs)
then_values vs T E e = ap (λ t. after_values t vs) e ∙ sym (entries-values vs T)

pub then_notes : (n : NotesTree) (T : Known) (E : Entries) → E ≡ entries T → after_notes E n ≡ entries (known_notes T n)
then_notes n T E e = ap (λ t. after_notes t n) e ∙ sym (entries-notes n T)

pub then_contents : (cs : ContentTrees) (T : Known) (E : Entries) → E ≡ entries T → after_contents E cs ≡ entries (known_contents T cs)
then_contents cs T E e = ap (λ t. after_contents t cs) e ∙ sym (entries-contents cs T)

pub then_chain : (c : ClassPlaceTree) (T : Known) (E : Entries) → E ≡ entries T → chain_of_class E c ≡ layers_of (classes_of T c)
then_chain c T E e = ap (λ t. chain_of_class t c) e ∙ sym (layers-class c T)
