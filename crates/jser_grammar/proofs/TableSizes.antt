-- A tree makes the table longer by at most half as many entries as it has bytes.
use Rattle.std.proofs.Common.{ℕ, ◌+◌, ◌*◌, ◌<◌, ◌≤◌, Bool, true, false, List, [], ◌∷◌, ◌++◌, length, length-append, arith, Option, Some, None}
use Rattle.jser_grammar.proofs.Vocabulary.{text_entry, other_entry, pending_entry, big_bytes, TextPlaceTree, new_text, back_text, FieldTree, ValueTree, null, back, string, descriptor, class_object, array, enum_constant, object, DescTree, plain, proxy, ClassPlaceTree, no_class, back_class, new_class, BodyTree, raw_body, value_body, ValueTrees, no_values, value_and, section, SectionTrees, no_sections, section_and, NotesTree, no_notes, annotation, block, reset, content, ContentTrees, no_contents, content_and, value_count, Entries, add, plain_layer, proxy_layer, after_text_place, after_type, after_fields, after_value, after_desc, after_class, after_body, after_values, after_sections, after_notes, after_contents, chain_of_class, table_after}
use Rattle.jser_grammar.specs.Spelling.{utf, string_spelling, text_place_spelling, type_spelling, fields_spelling, interfaces_spelling, prims_spelling, block_head, value_spelling, desc_spelling, class_spelling, body_spelling, values_spelling, sections_spelling, notes_spelling, annotation_spelling, contents_spelling, spelling}
use Rattle.jser_grammar.proofs.TableLemmas.{length-add, length-close}

pub some_string : (long : Bool) (units : List ℕ) → 2 < length (string_spelling long units)
some_string true units = omega arith
some_string false units = omega arith

pub sized_text : (t : TextPlaceTree) (T : Entries) → 2 * length (after_text_place T t) ≤ 2 * length T + length (text_place_spelling t)
sized_text (new_text t) T = omega (arith, length-add T text_entry, some_string t.long t.units)
sized_text (back_text n) T = omega arith

pub sized_type : (t : Option TextPlaceTree) (T : Entries) → 2 * length (after_type T t) ≤ 2 * length T + length (type_spelling t)
sized_type None T = omega arith
sized_type (Some t) T = sized_text t T

pub sized_fields : (fs : List FieldTree) (T : Entries) → 2 * length (after_fields T fs) ≤ 2 * length T + length (fields_spelling fs)
sized_fields [] T = omega arith
sized_fields (f ∷ fs) T =
    omega (
      arith,
      length-append (utf f.name) (type_spelling f.text
          ++ fields_spelling fs),
      length-append (type_spelling f.text) (fields_spelling fs),
      sized_type f.text T,
      sized_fields fs (after_type T f.text),
    )

mutual
  pub sized_value : (v : ValueTree) (T : Entries) → 2 * length (after_value T v) ≤ 2 * length T + length (value_spelling v)
  sized_value null T = omega arith
  sized_value (back n) T = omega arith
  sized_value (string t) T = omega (arith, length-add T text_entry, some_string t.long t.units)
  sized_value (descriptor x) T = omega (arith, sized_desc x T)
  sized_value (class_object c) T = omega (arith, length-add (after_class T c) other_entry, sized_class c T)
  sized_value (array c b) T =
      omega (
        arith,
        length-append (class_spelling c) (body_spelling b),
        length-add
            (after_class T c) other_entry,
        sized_class c T,
        sized_body b (add (after_class T c) other_entry),
      )
  sized_value (enum_constant c t) T =
      omega (
        arith,
        length-append (class_spelling c) (text_place_spelling t),
        length-add
            (after_class T c) other_entry,
        sized_class c T,
        sized_text t (add (after_class T c) other_entry),
      )
  sized_value (object c ss) T =
      omega (
        arith,
        length-append (class_spelling c) (sections_spelling ss),
        length-add
            (after_class T c) other_entry,
        sized_class c T,
        sized_sections ss (add (after_class T c) other_entry),
      )

  pub sized_desc : (x : DescTree) (T : Entries) → 2 * length (after_desc T x) < 2 * length T + length (desc_spelling x)
  sized_desc (plain name suid flags fields notes parent) T =
      let opened = add T pending_entry in
      let behind = after_fields opened fields in
      let inside = after_contents behind notes in
      let ends : List ℕ = annotation_spelling notes ++ class_spelling parent in
      let counted : List ℕ = big_bytes 2 (length fields) ++ (fields_spelling fields ++ ends) in
      omega (
        arith,
        length-append (utf name) (big_bytes 8 suid
            ++ (flags ∷ counted)),
        length-append (big_bytes 8 suid) (flags ∷ counted),
        length-append (big_bytes 2 (length fields)) (fields_spelling fields ++ ends),
        length-append (fields_spelling fields) ends,
        length-append (annotation_spelling notes) (class_spelling parent),
        length-close (after_class inside parent) (length T) (chain_of_class inside parent
            ++ (plain_layer name flags fields ∷ [])),
        length-add T pending_entry,
        sized_fields fields opened,
        sized_contents notes behind,
        sized_class parent inside,
      )
  sized_desc (proxy interfaces notes parent) T =
      let opened = add T pending_entry in
      let inside = after_contents opened notes in
      let ends : List ℕ = annotation_spelling notes ++ class_spelling parent in
      omega (
        arith,
        length-append (big_bytes 4 (length interfaces)) (interfaces_spelling interfaces
            ++ ends),
        length-append (interfaces_spelling interfaces) ends,
        length-append (annotation_spelling notes) (class_spelling parent),
        length-close (after_class inside parent) (length T) (chain_of_class inside parent ++ (proxy_layer ∷ [])),
        length-add T pending_entry,
        sized_contents notes opened,
        sized_class parent inside,
      )

  pub sized_class : (c : ClassPlaceTree) (T : Entries) → 2 * length (after_class T c) < 2 * length T + length (class_spelling c)
  sized_class no_class T = omega arith
  sized_class (back_class n) T = omega arith
  sized_class (new_class x) T = sized_desc x T

  pub sized_body : (b : BodyTree) (T : Entries) → 2 * length (after_body T b) ≤ 2 * length T + length (body_spelling b)
  sized_body (raw_body ps) T = omega arith
  sized_body (value_body vs) T =
      omega (arith, length-append (big_bytes 4 (value_count vs)) (values_spelling vs), sized_values vs T)

  pub sized_values : (vs : ValueTrees) (T : Entries) → 2 * length (after_values T vs) ≤ 2 * length T + length (values_spelling vs)
  sized_values no_values T = omega arith
  sized_values (value_and v vs) T =
      omega (arith, length-append (value_spelling v) (values_spelling vs), sized_value v T, sized_values vs (after_value T v))

  pub sized_sections : (ss : SectionTrees) (T : Entries) → 2 * length (after_sections T ss) ≤ 2 * length T + length (sections_spelling ss)
  sized_sections no_sections T = omega arith
  sized_sections (section_and (section ps vs n) ss) T =
      omega (
        arith,
        length-append (prims_spelling ps) (values_spelling vs ++ (notes_spelling n ++ sections_spelling ss)),
        length-append (values_spelling vs) (notes_spelling n
            ++ sections_spelling ss),
        length-append (notes_spelling n) (sections_spelling ss),
        sized_values vs T,
        sized_notes n (after_values T vs),
        sized_sections ss (after_notes (after_values T vs) n),
      )

  pub sized_notes : (n : NotesTree) (T : Entries) → 2 * length (after_notes T n) ≤ 2 * length T + length (notes_spelling n)
  sized_notes no_notes T = omega arith
  sized_notes (annotation cs) T = omega (arith, sized_contents cs T)

  -- an annotation; its end has a byte too
  pub sized_contents : (cs : ContentTrees) (T : Entries)
      → 2 * length (after_contents T cs) < 2 * length T + length (annotation_spelling cs)
  sized_contents no_contents T = omega arith
  sized_contents (content_and (block long b) cs) T =
      omega (arith, length-append (block_head long (length b) ++ b) (annotation_spelling cs), sized_contents cs T)
  sized_contents (content_and reset cs) T = omega (arith, sized_contents cs T)
  sized_contents (content_and (content v) cs) T =
      omega (
        arith,
        length-append (value_spelling v) (annotation_spelling cs),
        sized_value v T,
        sized_contents cs
            (after_value T v),
      )

-- a content list, from a table on
sized_top : (cs : ContentTrees) (T : Entries) → 2 * length (table_after T cs) ≤ 2 * length T + length (contents_spelling cs)
sized_top no_contents T = omega arith
sized_top (content_and (block long b) cs) T =
    omega (arith, length-append (block_head long (length b) ++ b) (contents_spelling cs), sized_top cs T)
sized_top (content_and reset cs) T = omega (arith, sized_top cs [])
sized_top (content_and (content v) cs) T =
    omega (arith, length-append (value_spelling v) (contents_spelling cs), sized_value v T, sized_top cs (after_value T v))

-- and a whole one
pub sized_list : (cs : ContentTrees) → 2 * length (table_after [] cs) + 4 ≤ length (spelling cs)
sized_list cs = omega (arith, sized_top cs [])
