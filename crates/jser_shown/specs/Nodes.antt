-- The nodes of a stream: what the handles of each epoch name, in their order (Java Object Serialization
-- Specification, section 6.4: newHandle). A node has its kind, the place of its tag, which is the number of bytes
-- before it, and the units of a string. `p` is the place of what is taken next, `N` the nodes before it.
use Rattle.std.specs.Prelude.{ℕ, suc, List, [], ◌∷◌, ◌++◌, length, Option, Some, None}
use Rattle.jser_prim.specs.Bytes.{big_bytes}
use Rattle.jser_grammar.specs.Trees.{TextPlaceTree, new_text, back_text, FieldTree, ValueTree, null, back, string, descriptor, class_object, array, enum_constant, object, DescTree, plain, proxy, ClassPlaceTree, no_class, back_class, new_class, BodyTree, raw_body, value_body, ValueTrees, no_values, value_and, section, SectionTrees, no_sections, section_and, NotesTree, no_notes, annotation, block, reset, content, ContentTrees, no_contents, content_and}
use Rattle.jser_grammar.specs.Spelling.{utf, type_spelling, fields_spelling, interfaces_spelling, prims_spelling, value_spelling, class_spelling, values_spelling, notes_spelling, annotation_spelling, content_spelling}
use Rattle.jser_grammar.specs.Counts.{array_length}

pub data NodeKind : Type 0 where
  text_node plain_desc_node proxy_desc_node class_object_node array_node enum_const_node object_node : NodeKind

pub record Node : Type 0 where
  pub kind : NodeKind
  pub place : ℕ
  pub units : Option (List ℕ)

-- the nodes of an epoch
abbrev pub Nodes : Type 0
Nodes = List Node

abbrev pub with_node : Nodes → NodeKind → ℕ → Nodes
with_node N kind place = N ++ (record { kind = kind; place = place; units = None } ∷ [])

abbrev pub with_text : Nodes → ℕ → List ℕ → Nodes
with_text N place units = N ++ (record { kind = text_node; place = place; units = Some units } ∷ [])

-- the place after these bytes
abbrev pub place_after : ℕ → List ℕ → ℕ
place_after p [] = p
place_after p (b ∷ bytes) = place_after (suc p) bytes

abbrev pub nodes_text : Nodes → ℕ → TextPlaceTree → Nodes
nodes_text N p (new_text t) = with_text N p t.units
nodes_text N p (back_text n) = N

abbrev pub nodes_type : Nodes → ℕ → Option TextPlaceTree → Nodes
nodes_type N p None = N
nodes_type N p (Some t) = nodes_text N p t

-- a field has its type code, one byte, and its name before its type
abbrev pub nodes_fields : Nodes → ℕ → List FieldTree → Nodes
nodes_fields N p [] = N
nodes_fields N p (f ∷ fs) =
    let type_place = place_after (suc p) (utf f.name) in
    nodes_fields (nodes_type N type_place f.text) (place_after type_place (type_spelling f.text)) fs

abbrev mutual
  -- a tag has one byte; an array has its length before its elements
  pub nodes_value : Nodes → ℕ → ValueTree → Nodes
  nodes_value N p null = N
  nodes_value N p (back n) = N
  nodes_value N p (string t) = with_text N p t.units
  nodes_value N p (descriptor d) = nodes_desc N p d
  nodes_value N p (class_object c) = with_node (nodes_class N (suc p) c) class_object_node p
  nodes_value N p (array c b) =
      nodes_body (with_node (nodes_class N (suc p) c) array_node p)
      (place_after (place_after (suc p) (class_spelling c)) (big_bytes 4 (array_length b))) b
  nodes_value N p (enum_constant c t) =
      nodes_text (with_node (nodes_class N (suc p) c) enum_const_node p) (place_after (suc p) (class_spelling c)) t
  nodes_value N p (object c ss) =
      nodes_sections (with_node (nodes_class N (suc p) c) object_node p) (place_after (suc p) (class_spelling c)) ss

  -- between a class name and the fields there are serialVersionUID, the flags and the count of fields
  pub nodes_desc : Nodes → ℕ → DescTree → Nodes
  nodes_desc N p (plain name suid flags fields notes parent) =
      let fields_place =
      place_after (place_after (suc p) (utf name)) (big_bytes 8 suid ++ (flags ∷ big_bytes 2 (length fields))) in
      let notes_place = place_after fields_place (fields_spelling fields) in
      nodes_class (nodes_contents (nodes_fields (with_node N plain_desc_node p) fields_place fields) notes_place notes)
      (place_after notes_place (annotation_spelling notes)) parent
  nodes_desc N p (proxy interfaces notes parent) =
      let notes_place =
      place_after (place_after (suc p) (big_bytes 4 (length interfaces))) (interfaces_spelling interfaces) in
      nodes_class (nodes_contents (with_node N proxy_desc_node p) notes_place notes)
      (place_after notes_place (annotation_spelling notes)) parent

  pub nodes_class : Nodes → ℕ → ClassPlaceTree → Nodes
  nodes_class N p no_class = N
  nodes_class N p (back_class n) = N
  nodes_class N p (new_class d) = nodes_desc N p d

  pub nodes_body : Nodes → ℕ → BodyTree → Nodes
  nodes_body N p (raw_body ps) = N
  nodes_body N p (value_body vs) = nodes_values N p vs

  pub nodes_values : Nodes → ℕ → ValueTrees → Nodes
  nodes_values N p no_values = N
  nodes_values N p (value_and v vs) = nodes_values (nodes_value N p v) (place_after p (value_spelling v)) vs

  pub nodes_sections : Nodes → ℕ → SectionTrees → Nodes
  nodes_sections N p no_sections = N
  nodes_sections N p (section_and (section ps vs n) ss) =
      let values_place = place_after p (prims_spelling ps) in
      let notes_place = place_after values_place (values_spelling vs) in
      nodes_sections (nodes_notes (nodes_values N values_place vs) notes_place n)
      (place_after notes_place (notes_spelling n)) ss

  pub nodes_notes : Nodes → ℕ → NotesTree → Nodes
  nodes_notes N p no_notes = N
  nodes_notes N p (annotation cs) = nodes_contents N p cs

  pub nodes_contents : Nodes → ℕ → ContentTrees → Nodes
  nodes_contents N p no_contents = N
  nodes_contents N p (content_and (block long bytes) cs) =
      nodes_contents N (place_after p (content_spelling (block long bytes))) cs
  nodes_contents N p (content_and reset cs) = nodes_contents N (suc p) cs
  nodes_contents N p (content_and (content v) cs) =
      nodes_contents (nodes_value N p v) (place_after p (value_spelling v)) cs

-- the nodes of each epoch, from these of the first one on: TC_RESET ends an epoch
abbrev pub epochs_of_nodes : Nodes → ℕ → ContentTrees → List Nodes
epochs_of_nodes N p no_contents = N ∷ []
epochs_of_nodes N p (content_and (block long bytes) cs) =
    epochs_of_nodes N (place_after p (content_spelling (block long bytes))) cs
epochs_of_nodes N p (content_and reset cs) = N ∷ epochs_of_nodes [] (suc p) cs
epochs_of_nodes N p (content_and (content v) cs) =
    epochs_of_nodes (nodes_value N p v) (place_after p (value_spelling v)) cs

-- of a stream: its header has four bytes
abbrev pub nodes_of : ContentTrees → List Nodes
nodes_of list = epochs_of_nodes [] 4 list
