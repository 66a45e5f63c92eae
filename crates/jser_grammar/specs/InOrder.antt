-- What is gathered from a tree in stream order: something for the elements of each array, and something for the names
-- of each class: the name of a plain descriptor, the interfaces of a proxy descriptor.
use Rattle.std.specs.Prelude.{ℕ, List, [], ◌∷◌, ◌++◌}
use Rattle.jser_grammar.specs.Trees.{ValueTree, null, back, string, descriptor, class_object, array, enum_constant, object, DescTree, plain, proxy, ClassPlaceTree, no_class, back_class, new_class, BodyTree, raw_body, value_body, ValueTrees, no_values, value_and, section, SectionTrees, no_sections, section_and, NotesTree, no_notes, annotation, block, reset, content, ContentTrees, no_contents, content_and}

abbrev mutual
  pub gathered_in_value : {X : Type 0} → (BodyTree → List X) → (List (List ℕ) → List X) → ValueTree → List X
  gathered_in_value elements names null = []
  gathered_in_value elements names (back n) = []
  gathered_in_value elements names (string t) = []
  gathered_in_value elements names (descriptor d) = gathered_in_desc elements names d
  gathered_in_value elements names (class_object c) = gathered_in_class elements names c
  gathered_in_value elements names (array c b) =
      gathered_in_class elements names c ++ (elements b ++ gathered_in_body elements names b)
  gathered_in_value elements names (enum_constant c t) = gathered_in_class elements names c
  gathered_in_value elements names (object c ss) = gathered_in_class elements names c ++ gathered_in_sections elements names ss

  pub gathered_in_desc : {X : Type 0} → (BodyTree → List X) → (List (List ℕ) → List X) → DescTree → List X
  gathered_in_desc elements names (plain name suid flags fields notes parent) =
      names (name ∷ []) ++ (gathered_in_contents elements names notes ++ gathered_in_class elements names parent)
  gathered_in_desc elements names (proxy interfaces notes parent) =
      names interfaces ++ (gathered_in_contents elements names notes ++ gathered_in_class elements names parent)

  pub gathered_in_class : {X : Type 0} → (BodyTree → List X) → (List (List ℕ) → List X) → ClassPlaceTree → List X
  gathered_in_class elements names no_class = []
  gathered_in_class elements names (back_class n) = []
  gathered_in_class elements names (new_class d) = gathered_in_desc elements names d

  pub gathered_in_body : {X : Type 0} → (BodyTree → List X) → (List (List ℕ) → List X) → BodyTree → List X
  gathered_in_body elements names (raw_body ps) = []
  gathered_in_body elements names (value_body vs) = gathered_in_values elements names vs

  pub gathered_in_values : {X : Type 0} → (BodyTree → List X) → (List (List ℕ) → List X) → ValueTrees → List X
  gathered_in_values elements names no_values = []
  gathered_in_values elements names (value_and v vs) = gathered_in_value elements names v ++ gathered_in_values elements names vs

  pub gathered_in_sections : {X : Type 0} → (BodyTree → List X) → (List (List ℕ) → List X) → SectionTrees → List X
  gathered_in_sections elements names no_sections = []
  gathered_in_sections elements names (section_and (section ps vs n) ss) =
      gathered_in_values elements names vs ++ (gathered_in_notes elements names n ++ gathered_in_sections elements names ss)

  pub gathered_in_notes : {X : Type 0} → (BodyTree → List X) → (List (List ℕ) → List X) → NotesTree → List X
  gathered_in_notes elements names no_notes = []
  gathered_in_notes elements names (annotation cs) = gathered_in_contents elements names cs

  pub gathered_in_contents : {X : Type 0} → (BodyTree → List X) → (List (List ℕ) → List X) → ContentTrees → List X
  gathered_in_contents elements names no_contents = []
  gathered_in_contents elements names (content_and (block long bytes) cs) = gathered_in_contents elements names cs
  gathered_in_contents elements names (content_and reset cs) = gathered_in_contents elements names cs
  gathered_in_contents elements names (content_and (content v) cs) =
      gathered_in_value elements names v ++ gathered_in_contents elements names cs
