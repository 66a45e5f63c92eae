-- An array has no more elements than bytes.
use Rattle.std.proofs.Common.{ℕ, ◌<◌, ◌≤◌, List, [], ◌∷◌, ◌++◌, length, arith, length-append}
use Rattle.jser_grammar.proofs.Vocabulary.{big_bytes, PrimCode, byte_code, char_code, double_code, float_code, int_code, long_code, short_code, boolean_code, PrimTree, ValueTree, null, back, string, descriptor, class_object, array, enum_constant, object, DescTree, plain, proxy, ClassPlaceTree, no_class, back_class, new_class, BodyTree, raw_body, value_body, ValueTrees, no_values, value_and, section, SectionTrees, no_sections, section_and, NotesTree, no_notes, annotation, block, reset, content, ContentTrees, no_contents, content_and, value_count}
use Rattle.jser_grammar.specs.Spelling.{utf, text_place_spelling, fields_spelling, interfaces_spelling, prim_spelling, prims_spelling, block_head, value_spelling, desc_spelling, class_spelling, body_spelling, values_spelling, sections_spelling, notes_spelling, annotation_spelling, contents_spelling}
use Rattle.jser_grammar.specs.Counts.{array_length}
use Rattle.jser_grammar.specs.InOrder.{gathered_in_value, gathered_in_desc, gathered_in_class, gathered_in_body, gathered_in_values, gathered_in_sections, gathered_in_notes, gathered_in_contents}
use Rattle.jser_reading.specs.GateLimits.{Each}
use Rattle.jser_trees.proofs.ValuesBuilt.{some_bytes}

abbrev pub Below : ℕ → List ℕ → Type 0
Below most ns = Each (λ n. n ≤ most) ns

below_both : (most : ℕ) (xs ys : List ℕ) → Below most xs → Below most ys → Below most (xs ++ ys)
below_both most [] ys h k = k
below_both most (x ∷ xs) ys h k = (h.0, below_both most xs ys h.1 k)

some_prim : (c : PrimCode) (bits : ℕ) → 0 < length (prim_spelling (record { code = c; bits = bits }))
some_prim byte_code bits = omega arith
some_prim char_code bits = omega arith
some_prim double_code bits = omega arith
some_prim float_code bits = omega arith
some_prim int_code bits = omega arith
some_prim long_code bits = omega arith
some_prim short_code bits = omega arith
some_prim boolean_code bits = omega arith

few_prims : (ps : List PrimTree) → length ps ≤ length (prims_spelling ps)
few_prims [] = omega arith
few_prims (p ∷ ps) = omega (arith, length-append (prim_spelling p) (prims_spelling ps), some_prim p.code p.bits, few_prims ps)

few_values : (vs : ValueTrees) → value_count vs ≤ length (values_spelling vs)
few_values no_values = omega arith
few_values (value_and v vs) = omega (arith, length-append (value_spelling v) (values_spelling vs), some_bytes v, few_values vs)

few_elements : (b : BodyTree) → array_length b ≤ length (body_spelling b)
few_elements (raw_body ps) = omega (arith, length-append (big_bytes 4 (length ps)) (prims_spelling ps), few_prims ps)
few_elements (value_body vs) = omega (arith, length-append (big_bytes 4 (value_count vs)) (values_spelling vs), few_values vs)

-- the array lengths in a tree

abbrev arrays_in_value : ValueTree → List ℕ
arrays_in_value v = gathered_in_value (λ elements. array_length elements ∷ []) (λ names. []) v

abbrev arrays_in_desc : DescTree → List ℕ
arrays_in_desc d = gathered_in_desc (λ elements. array_length elements ∷ []) (λ names. []) d

abbrev arrays_in_class : ClassPlaceTree → List ℕ
arrays_in_class c = gathered_in_class (λ elements. array_length elements ∷ []) (λ names. []) c

abbrev arrays_in_body : BodyTree → List ℕ
arrays_in_body b = gathered_in_body (λ elements. array_length elements ∷ []) (λ names. []) b

abbrev arrays_in_values : ValueTrees → List ℕ
arrays_in_values vs = gathered_in_values (λ elements. array_length elements ∷ []) (λ names. []) vs

abbrev arrays_in_sections : SectionTrees → List ℕ
arrays_in_sections ss = gathered_in_sections (λ elements. array_length elements ∷ []) (λ names. []) ss

abbrev arrays_in_notes : NotesTree → List ℕ
arrays_in_notes n = gathered_in_notes (λ elements. array_length elements ∷ []) (λ names. []) n

abbrev arrays_in_contents : ContentTrees → List ℕ
arrays_in_contents cs = gathered_in_contents (λ elements. array_length elements ∷ []) (λ names. []) cs

mutual
  arrays_value : (v : ValueTree) (most : ℕ) → length (value_spelling v) ≤ most → Below most (arrays_in_value v)
  arrays_value null most h = tt
  arrays_value (back n) most h = tt
  arrays_value (string t) most h = tt
  arrays_value (descriptor x) most h = arrays_desc x most h
  arrays_value (class_object c) most h = arrays_class c most (omega arith)
  arrays_value (array c b) most h =
      let split = length-append (class_spelling c) (body_spelling b) in
      below_both most (arrays_in_class c) (array_length b ∷ arrays_in_body b) (arrays_class c most (omega (arith, split)))
      (omega (arith, split, few_elements b), arrays_body b most (omega (arith, split)))
  arrays_value (enum_constant c t) most h =
      arrays_class c most (omega (arith, length-append (class_spelling c) (text_place_spelling t)))
  arrays_value (object c ss) most h =
      let split = length-append (class_spelling c) (sections_spelling ss) in
      below_both most (arrays_in_class c) (arrays_in_sections ss) (arrays_class c most (omega (arith, split))) (arrays_sections ss most (omega (arith, split)))

  arrays_desc : (x : DescTree) (most : ℕ) → length (desc_spelling x) ≤ most → Below most (arrays_in_desc x)
  arrays_desc (plain name suid flags fields notes parent) most h =
      let ends : List ℕ = annotation_spelling notes ++ class_spelling parent in
      let counted : List ℕ = big_bytes 2 (length fields) ++ (fields_spelling fields ++ ends) in
      let small : length ends ≤ most = omega (
        arith,
        length-append (utf name) (big_bytes 8 suid ++ (flags ∷ counted)),
        length-append (big_bytes 8 suid) (flags ∷ counted),
        length-append (big_bytes 2 (length fields)) (fields_spelling fields ++ ends),
        length-append (fields_spelling fields) ends,
      ) in
      let split = length-append (annotation_spelling notes) (class_spelling parent) in
      below_both most (arrays_in_contents notes) (arrays_in_class parent) (arrays_annotation notes most (omega (arith, split)))
      (arrays_class parent most (omega (arith, split)))
  arrays_desc (proxy interfaces notes parent) most h =
      let ends : List ℕ = annotation_spelling notes ++ class_spelling parent in
      let small : length ends ≤ most = omega (
        arith,
        length-append (big_bytes 4 (length interfaces)) (interfaces_spelling interfaces ++ ends),
        length-append (interfaces_spelling interfaces) ends,
      ) in
      let split = length-append (annotation_spelling notes) (class_spelling parent) in
      below_both most (arrays_in_contents notes) (arrays_in_class parent) (arrays_annotation notes most (omega (arith, split)))
      (arrays_class parent most (omega (arith, split)))

  arrays_class : (c : ClassPlaceTree) (most : ℕ) → length (class_spelling c) ≤ most → Below most (arrays_in_class c)
  arrays_class no_class most h = tt
  arrays_class (back_class n) most h = tt
  arrays_class (new_class x) most h = arrays_desc x most h

  arrays_body : (b : BodyTree) (most : ℕ) → length (body_spelling b) ≤ most → Below most (arrays_in_body b)
  arrays_body (raw_body ps) most h = tt
  arrays_body (value_body vs) most h = arrays_values vs most (omega (arith, length-append (big_bytes 4 (value_count vs)) (values_spelling vs)))

  arrays_values : (vs : ValueTrees) (most : ℕ) → length (values_spelling vs) ≤ most → Below most (arrays_in_values vs)
  arrays_values no_values most h = tt
  arrays_values (value_and v vs) most h =
      let split = length-append (value_spelling v) (values_spelling vs) in
      below_both most (arrays_in_value v) (arrays_in_values vs) (arrays_value v most (omega (arith, split))) (arrays_values vs most (omega (arith, split)))

  arrays_sections : (ss : SectionTrees) (most : ℕ) → length (sections_spelling ss) ≤ most → Below most (arrays_in_sections ss)
  arrays_sections no_sections most h = tt
  arrays_sections (section_and (section ps vs n) ss) most h =
      let first = length-append (prims_spelling ps) (values_spelling vs ++ (notes_spelling n ++ sections_spelling ss)) in
      let second = length-append (values_spelling vs) (notes_spelling n ++ sections_spelling ss) in
      let third = length-append (notes_spelling n) (sections_spelling ss) in
      below_both most (arrays_in_values vs) (arrays_in_notes n ++ arrays_in_sections ss) (arrays_values vs most (omega (arith, first, second)))
      (below_both most (arrays_in_notes n) (arrays_in_sections ss) (arrays_notes n most (omega (arith, first, second, third)))
      (arrays_sections ss most (omega (arith, first, second, third))))

  arrays_notes : (n : NotesTree) (most : ℕ) → length (notes_spelling n) ≤ most → Below most (arrays_in_notes n)
  arrays_notes no_notes most h = tt
  arrays_notes (annotation cs) most h = arrays_annotation cs most h

  arrays_annotation : (cs : ContentTrees) (most : ℕ) → length (annotation_spelling cs) ≤ most → Below most (arrays_in_contents cs)
  arrays_annotation no_contents most h = tt
  arrays_annotation (content_and (block long b) cs) most h =
      arrays_annotation cs most (omega (arith, length-append (block_head long (length b) ++ b) (annotation_spelling cs)))
  arrays_annotation (content_and reset cs) most h = arrays_annotation cs most (omega arith)
  arrays_annotation (content_and (content v) cs) most h =
      let split = length-append (value_spelling v) (annotation_spelling cs) in
      below_both most (arrays_in_value v) (arrays_in_contents cs) (arrays_value v most (omega (arith, split))) (arrays_annotation cs most (omega (arith, split)))

pub arrays_contents : (cs : ContentTrees) (most : ℕ) → length (contents_spelling cs) ≤ most → Below most (arrays_in_contents cs)
arrays_contents no_contents most h = tt
arrays_contents (content_and (block long b) cs) most h =
    arrays_contents cs most (omega (arith, length-append (block_head long (length b) ++ b) (contents_spelling cs)))
arrays_contents (content_and reset cs) most h = arrays_contents cs most (omega arith)
arrays_contents (content_and (content v) cs) most h =
    let split = length-append (value_spelling v) (contents_spelling cs) in
    below_both most (arrays_in_value v) (arrays_in_contents cs) (arrays_value v most (omega (arith, split))) (arrays_contents cs most (omega (arith, split)))
