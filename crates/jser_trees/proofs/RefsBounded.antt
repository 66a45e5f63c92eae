-- A list has no more places than bytes.
use Rattle.std.proofs.Common.{ℕ, suc, ◌≤◌, List, ◌∷◌, ◌++◌, length, arith, length-append}
use Rattle.jser_grammar.proofs.Vocabulary.{big_bytes, ValueTree, null, back, string, descriptor, class_object, array, enum_constant, object, DescTree, plain, proxy, ClassPlaceTree, no_class, back_class, new_class, BodyTree, raw_body, value_body, ValueTrees, no_values, value_and, section, SectionTrees, no_sections, section_and, NotesTree, no_notes, annotation, block, reset, content, ContentTrees, no_contents, content_and, value_count}
use Rattle.jser_grammar.specs.Spelling.{utf, text_place_spelling, fields_spelling, interfaces_spelling, prims_spelling, block_head, value_spelling, desc_spelling, class_spelling, body_spelling, values_spelling, sections_spelling, notes_spelling, annotation_spelling, contents_spelling}
use Rattle.jser_grammar.proofs.TableSizes.{some_string}
use Rattle.jser_grammar.specs.Counts.{refs_in_value, refs_in_desc, refs_in_class, refs_in_body, refs_in_values, refs_in_sections, refs_in_notes, refs_in_contents}

mutual
  refs_value : (v : ValueTree) → refs_in_value v ≤ length (value_spelling v)
  refs_value null = omega arith
  refs_value (back n) = omega arith
  refs_value (string t) = omega (arith, some_string t.long t.units)
  refs_value (descriptor x) = refs_desc x
  refs_value (class_object c) = omega (arith, refs_class c)
  refs_value (array c b) = omega (arith, length-append (class_spelling c) (body_spelling b), refs_class c, refs_body b)
  refs_value (enum_constant c t) = omega (arith, length-append (class_spelling c) (text_place_spelling t), refs_class c)
  refs_value (object c ss) = omega (arith, length-append (class_spelling c) (sections_spelling ss), refs_class c, refs_sections ss)

  refs_desc : (x : DescTree) → suc (refs_in_desc x) ≤ length (desc_spelling x)
  refs_desc (plain name suid flags fields notes parent) =
      let ends : List ℕ = annotation_spelling notes ++ class_spelling parent in
      let counted : List ℕ = big_bytes 2 (length fields) ++ (fields_spelling fields ++ ends) in
      omega (
        arith,
        length-append (utf name) (big_bytes 8 suid ++ (flags ∷ counted)),
        length-append (big_bytes 8 suid) (flags ∷ counted),
        length-append (big_bytes 2 (length fields)) (fields_spelling fields ++ ends),
        length-append (fields_spelling fields) ends,
        length-append (annotation_spelling notes) (class_spelling parent),
        refs_annotation notes,
        refs_class parent,
      )
  refs_desc (proxy interfaces notes parent) =
      let ends : List ℕ = annotation_spelling notes ++ class_spelling parent in
      omega (
        arith,
        length-append (big_bytes 4 (length interfaces)) (interfaces_spelling interfaces ++ ends),
        length-append (interfaces_spelling interfaces) ends,
        length-append (annotation_spelling notes) (class_spelling parent),
        refs_annotation notes,
        refs_class parent,
      )

  refs_class : (c : ClassPlaceTree) → suc (refs_in_class c) ≤ length (class_spelling c)
  refs_class no_class = omega arith
  refs_class (back_class n) = omega arith
  refs_class (new_class x) = refs_desc x

  refs_body : (b : BodyTree) → refs_in_body b ≤ length (body_spelling b)
  refs_body (raw_body ps) = omega arith
  refs_body (value_body vs) = omega (arith, length-append (big_bytes 4 (value_count vs)) (values_spelling vs), refs_values vs)

  refs_values : (vs : ValueTrees) → refs_in_values vs ≤ length (values_spelling vs)
  refs_values no_values = omega arith
  refs_values (value_and v vs) = omega (arith, length-append (value_spelling v) (values_spelling vs), refs_value v, refs_values vs)

  refs_sections : (ss : SectionTrees) → refs_in_sections ss ≤ length (sections_spelling ss)
  refs_sections no_sections = omega arith
  refs_sections (section_and (section ps vs n) ss) =
      omega (
        arith,
        length-append (prims_spelling ps) (values_spelling vs ++ (notes_spelling n ++ sections_spelling ss)),
        length-append (values_spelling vs) (notes_spelling n ++ sections_spelling ss),
        length-append (notes_spelling n) (sections_spelling ss),
        refs_values vs,
        refs_notes n,
        refs_sections ss,
      )

  refs_notes : (n : NotesTree) → refs_in_notes n ≤ length (notes_spelling n)
  refs_notes no_notes = omega arith
  refs_notes (annotation cs) = omega (arith, refs_annotation cs)

  refs_annotation : (cs : ContentTrees) → suc (refs_in_contents cs) ≤ length (annotation_spelling cs)
  refs_annotation no_contents = omega arith
  refs_annotation (content_and (block long b) cs) = omega (arith, length-append (block_head long (length b) ++ b) (annotation_spelling cs), refs_annotation cs)
  refs_annotation (content_and reset cs) = omega (arith, refs_annotation cs)
  refs_annotation (content_and (content v) cs) =
      omega (arith, length-append (value_spelling v) (annotation_spelling cs), refs_value v, refs_annotation cs)

pub refs_contents : (cs : ContentTrees) → refs_in_contents cs ≤ length (contents_spelling cs)
refs_contents no_contents = omega arith
refs_contents (content_and (block long b) cs) = omega (arith, length-append (block_head long (length b) ++ b) (contents_spelling cs), refs_contents cs)
refs_contents (content_and reset cs) = omega (arith, refs_contents cs)
refs_contents (content_and (content v) cs) = omega (arith, length-append (value_spelling v) (contents_spelling cs), refs_value v, refs_contents cs)
