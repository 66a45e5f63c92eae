-- The objects, arrays, enum constants and class objects of a list, in the order of their tags: of each one its number
-- among the handles of its epoch, and how many elements an array has. In the stream both come after the class place;
-- the text of show has them before it. `T` is what is known when the tree begins, `os` are those of what comes after.
use Rattle.std.specs.Prelude.{ℕ, List, [], ◌∷◌, length}
use Rattle.jser_grammar.specs.Trees.{ValueTree, null, back, string, descriptor, class_object, array, enum_constant, object, DescTree, plain, proxy, ClassPlaceTree, no_class, back_class, new_class, BodyTree, raw_body, value_body, ValueTrees, no_values, value_and, section, SectionTrees, no_sections, section_and, NotesTree, no_notes, annotation, block, reset, content, ContentTrees, no_contents, content_and}
use Rattle.jser_grammar.specs.Counts.{array_length}
use Rattle.jser_shown.specs.Known.{known_other, known_pending, Known, with_entry, known_fields, known_value, known_class_place, known_values, known_notes, known_contents}

pub record OwnerNode : Type 0 where
  pub number : ℕ
  pub elements : ℕ

abbrev pub owner_node : ℕ → ℕ → OwnerNode
owner_node number elements = record { number = number; elements = elements }

-- those of a tree, in the order of their tags, before `os`
abbrev mutual
  pub owners_in_value : Known → ValueTree → List OwnerNode → List OwnerNode
  owners_in_value T null os = os
  owners_in_value T (back n) os = os
  owners_in_value T (string t) os = os
  owners_in_value T (descriptor d) os = owners_in_desc T d os
  owners_in_value T (class_object c) os = owner_node (length (known_class_place T c)) 0 ∷ owners_in_class T c os
  owners_in_value T (array c b) os =
      owner_node (length (known_class_place T c)) (array_length b)
      ∷ owners_in_class T c (owners_in_body (with_entry (known_class_place T c) known_other) b os)
  owners_in_value T (enum_constant c t) os = owner_node (length (known_class_place T c)) 0 ∷ owners_in_class T c os
  owners_in_value T (object c ss) os =
      owner_node (length (known_class_place T c)) 0
      ∷ owners_in_class T c (owners_in_sections (with_entry (known_class_place T c) known_other) ss os)

  pub owners_in_desc : Known → DescTree → List OwnerNode → List OwnerNode
  owners_in_desc T (plain name suid flags fields notes parent) os =
      let after_fields = known_fields (with_entry T known_pending) fields in
      owners_in_annotation after_fields notes (owners_in_class (known_contents after_fields notes) parent os)
  owners_in_desc T (proxy interfaces notes parent) os =
      owners_in_annotation (with_entry T known_pending) notes
      (owners_in_class (known_contents (with_entry T known_pending) notes) parent os)

  pub owners_in_class : Known → ClassPlaceTree → List OwnerNode → List OwnerNode
  owners_in_class T no_class os = os
  owners_in_class T (back_class n) os = os
  owners_in_class T (new_class d) os = owners_in_desc T d os

  pub owners_in_body : Known → BodyTree → List OwnerNode → List OwnerNode
  owners_in_body T (raw_body ps) os = os
  owners_in_body T (value_body vs) os = owners_in_values T vs os

  pub owners_in_values : Known → ValueTrees → List OwnerNode → List OwnerNode
  owners_in_values T no_values os = os
  owners_in_values T (value_and v vs) os = owners_in_value T v (owners_in_values (known_value T v) vs os)

  pub owners_in_sections : Known → SectionTrees → List OwnerNode → List OwnerNode
  owners_in_sections T no_sections os = os
  owners_in_sections T (section_and (section ps vs n) ss) os =
      owners_in_values T vs
      (owners_in_notes (known_values T vs) n (owners_in_sections (known_notes (known_values T vs) n) ss os))

  pub owners_in_notes : Known → NotesTree → List OwnerNode → List OwnerNode
  owners_in_notes T no_notes os = os
  owners_in_notes T (annotation cs) os = owners_in_annotation T cs os

  pub owners_in_annotation : Known → ContentTrees → List OwnerNode → List OwnerNode
  owners_in_annotation T no_contents os = os
  owners_in_annotation T (content_and (block long bytes) cs) os = owners_in_annotation T cs os
  owners_in_annotation T (content_and reset cs) os = owners_in_annotation T cs os
  owners_in_annotation T (content_and (content v) cs) os =
      owners_in_value T v (owners_in_annotation (known_value T v) cs os)

abbrev pub owners_at_top : Known → ContentTrees → List OwnerNode
owners_at_top T no_contents = []
owners_at_top T (content_and (block long bytes) cs) = owners_at_top T cs
owners_at_top T (content_and reset cs) = owners_at_top [] cs
owners_at_top T (content_and (content v) cs) = owners_in_value T v (owners_at_top (known_value T v) cs)

-- those of a content list
abbrev pub owners_of : ContentTrees → List OwnerNode
owners_of list = owners_at_top [] list
