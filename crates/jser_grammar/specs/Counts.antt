-- The numbers of a stream that limits speak of (JEP 290: maxdepth, maxrefs, maxarray), counted in a tree.
-- A place is a value or a superclass place. The class in the class place of an object, array, class object or
-- enum constant shares that value's place; type texts, constant names, blocks and resets are no places.
use Rattle.std.specs.Prelude.{ℕ, suc, ◌+◌, max, List, [], ◌∷◌, ◌++◌, length, sum}
use Rattle.jser_grammar.specs.Trees.{ValueTree, null, back, string, descriptor, class_object, array, enum_constant, object, DescTree, plain, proxy, ClassPlaceTree, no_class, back_class, new_class, BodyTree, raw_body, value_body, ValueTrees, no_values, value_and, value_count, section, SectionTrees, no_sections, section_and, NotesTree, no_notes, annotation, block, reset, content, ContentTrees, no_contents, content_and}
use Rattle.jser_grammar.specs.TableAfter.{Entries, after_value}
use Rattle.jser_grammar.specs.InOrder.{gathered_in_contents}

-- How many places there are: in a value with its own, in all else of those within it. A descriptor has one
-- for its superclass.
abbrev mutual
  pub refs_in_value : ValueTree → ℕ
  refs_in_value null = 1
  refs_in_value (back n) = 1
  refs_in_value (string t) = 1
  refs_in_value (descriptor d) = suc (refs_in_desc d)
  refs_in_value (class_object c) = suc (refs_in_class c)
  refs_in_value (array c b) = suc (refs_in_class c + refs_in_body b)
  refs_in_value (enum_constant c t) = suc (refs_in_class c)
  refs_in_value (object c ss) = suc (refs_in_class c + refs_in_sections ss)

  pub refs_in_desc : DescTree → ℕ
  refs_in_desc (plain name suid flags fields notes parent) = refs_in_contents notes + suc (refs_in_class parent)
  refs_in_desc (proxy interfaces notes parent) = refs_in_contents notes + suc (refs_in_class parent)

  pub refs_in_class : ClassPlaceTree → ℕ
  refs_in_class no_class = 0
  refs_in_class (back_class n) = 0
  refs_in_class (new_class d) = refs_in_desc d

  pub refs_in_body : BodyTree → ℕ
  refs_in_body (raw_body ps) = 0
  refs_in_body (value_body vs) = refs_in_values vs

  pub refs_in_values : ValueTrees → ℕ
  refs_in_values no_values = 0
  refs_in_values (value_and v vs) = refs_in_value v + refs_in_values vs

  pub refs_in_sections : SectionTrees → ℕ
  refs_in_sections no_sections = 0
  refs_in_sections (section_and (section ps vs n) ss) = refs_in_values vs + (refs_in_notes n + refs_in_sections ss)

  pub refs_in_notes : NotesTree → ℕ
  refs_in_notes no_notes = 0
  refs_in_notes (annotation cs) = refs_in_contents cs

  pub refs_in_contents : ContentTrees → ℕ
  refs_in_contents no_contents = 0
  refs_in_contents (content_and (block long bytes) cs) = refs_in_contents cs
  refs_in_contents (content_and reset cs) = refs_in_contents cs
  refs_in_contents (content_and (content v) cs) = refs_in_value v + refs_in_contents cs

-- How deep the deepest place is, 0 without any: a value is at depth 1, and what stands within a value one
-- deeper; so is the superclass place of a descriptor, and each content of its annotation.
abbrev mutual
  pub depth_of_value : ValueTree → ℕ
  depth_of_value null = 1
  depth_of_value (back n) = 1
  depth_of_value (string t) = 1
  depth_of_value (descriptor d) = suc (depth_in_desc d)
  depth_of_value (class_object c) = suc (depth_in_class c)
  depth_of_value (array c b) = suc (max (depth_in_class c) (depth_in_body b))
  depth_of_value (enum_constant c t) = suc (depth_in_class c)
  depth_of_value (object c ss) = suc (max (depth_in_class c) (depth_in_sections ss))

  pub depth_in_desc : DescTree → ℕ
  depth_in_desc (plain name suid flags fields notes parent) =
      max (depth_in_contents notes) (suc (depth_in_class parent))
  depth_in_desc (proxy interfaces notes parent) = max (depth_in_contents notes) (suc (depth_in_class parent))

  pub depth_in_class : ClassPlaceTree → ℕ
  depth_in_class no_class = 0
  depth_in_class (back_class n) = 0
  depth_in_class (new_class d) = depth_in_desc d

  pub depth_in_body : BodyTree → ℕ
  depth_in_body (raw_body ps) = 0
  depth_in_body (value_body vs) = depth_in_values vs

  pub depth_in_values : ValueTrees → ℕ
  depth_in_values no_values = 0
  depth_in_values (value_and v vs) = max (depth_of_value v) (depth_in_values vs)

  pub depth_in_sections : SectionTrees → ℕ
  depth_in_sections no_sections = 0
  depth_in_sections (section_and (section ps vs n) ss) =
      max (depth_in_values vs) (max (depth_in_notes n) (depth_in_sections ss))

  pub depth_in_notes : NotesTree → ℕ
  depth_in_notes no_notes = 0
  depth_in_notes (annotation cs) = depth_in_contents cs

  pub depth_in_contents : ContentTrees → ℕ
  depth_in_contents no_contents = 0
  depth_in_contents (content_and (block long bytes) cs) = depth_in_contents cs
  depth_in_contents (content_and reset cs) = depth_in_contents cs
  depth_in_contents (content_and (content v) cs) = max (depth_of_value v) (depth_in_contents cs)

-- the length of an array
abbrev pub array_length : BodyTree → ℕ
array_length (raw_body ps) = length ps
array_length (value_body vs) = value_count vs

-- how many handles each epoch has, from this table on
abbrev pub epochs_from : Entries → ContentTrees → List ℕ
epochs_from T no_contents = length T ∷ []
epochs_from T (content_and (block long bytes) cs) = epochs_from T cs
epochs_from T (content_and reset cs) = length T ∷ epochs_from [] cs
epochs_from T (content_and (content v) cs) = epochs_from (after_value T v) cs

-- the counts of a content list

abbrev pub refs_of : ContentTrees → ℕ
refs_of list = refs_in_contents list

abbrev pub depth_of : ContentTrees → ℕ
depth_of list = depth_in_contents list

-- the length of each array, in stream order
abbrev pub array_lengths : ContentTrees → List ℕ
array_lengths list = gathered_in_contents (λ elements. array_length elements ∷ []) (λ names. []) list

abbrev pub content_count : ContentTrees → ℕ
content_count no_contents = 0
content_count (content_and c cs) = suc (content_count cs)

abbrev pub epoch_handles : ContentTrees → List ℕ
epoch_handles list = epochs_from [] list

abbrev pub handle_count : ContentTrees → ℕ
handle_count list = sum (epoch_handles list)
