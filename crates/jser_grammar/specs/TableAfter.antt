-- The table of handles after a tree (Java Object Serialization Specification, section 6.4.1: "newHandle:
-- the next number in sequence is assigned to the object being serialized or deserialized"). An entry is
-- added at the end of the list; its number is the handle less BASE_WIRE_HANDLE.
use Rattle.std.specs.Prelude.{ℕ, List, [], ◌∷◌, ◌++◌, length, slice_set, Option, Some, None}
use Rattle.jser_table.specs.declared.layer.Layer.{Layer}
use Rattle.jser_table.specs.declared.layer.LayerKind.TheVariants as kind
use Rattle.jser_table.specs.Entries.{TableEntry, text_entry, other_entry, pending_entry, closed_entry, chain_at}
use Rattle.jser_table.specs.Names.{name_kind, layer_kind}
use Rattle.jser_grammar.specs.Trees.{TextPlaceTree, new_text, back_text, FieldTree, ValueTree, null, back, string, descriptor, class_object, array, enum_constant, object, DescTree, plain, proxy, ClassPlaceTree, no_class, back_class, new_class, BodyTree, raw_body, value_body, ValueTrees, no_values, value_and, section, SectionTrees, no_sections, section_and, NotesTree, no_notes, annotation, block, reset, content, ContentTrees, no_contents, content_and}

abbrev pub Entries : Type 0
Entries = List TableEntry

abbrev pub add : Entries → TableEntry → Entries
add T entry = T ++ (entry ∷ [])

-- the descriptor with this number gets its chain
abbrev pub close : Entries → ℕ → List Layer → Entries
close T number chain = slice_set T number (closed_entry chain)

-- the layer of a plain descriptor
abbrev pub codes_of : List FieldTree → List ℕ
codes_of [] = []
codes_of (f ∷ fs) = f.code ∷ codes_of fs

abbrev pub plain_layer : List ℕ → ℕ → List FieldTree → Layer
plain_layer name flags fields = record { kind = layer_kind (name_kind name); flags = flags; codes = codes_of fields }

abbrev pub proxy_layer : Layer
proxy_layer = record { kind = kind.Proxy; flags = 0; codes = [] }

-- a new string adds an entry
abbrev pub after_text_place : Entries → TextPlaceTree → Entries
after_text_place T (new_text t) = add T text_entry
after_text_place T (back_text n) = T

abbrev pub after_type : Entries → Option TextPlaceTree → Entries
after_type T None = T
after_type T (Some t) = after_text_place T t

abbrev pub after_fields : Entries → List FieldTree → Entries
after_fields T [] = T
after_fields T (f ∷ fs) = after_fields (after_type T f.text) fs

abbrev mutual
  -- a class object, array, enum constant or object has its handle behind its class place
  pub after_value : Entries → ValueTree → Entries
  after_value T null = T
  after_value T (back n) = T
  after_value T (string t) = add T text_entry
  after_value T (descriptor d) = after_desc T d
  after_value T (class_object c) = add (after_class T c) other_entry
  after_value T (array c b) = after_body (add (after_class T c) other_entry) b
  after_value T (enum_constant c t) = after_text_place (add (after_class T c) other_entry) t
  after_value T (object c ss) = after_sections (add (after_class T c) other_entry) ss

  -- a descriptor is pending until its superclass place has been read, and then it has its chain
  pub after_desc : Entries → DescTree → Entries
  after_desc T (plain name suid flags fields notes parent) =
      let inside = after_contents (after_fields (add T pending_entry) fields) notes in
      close (after_class inside parent) (length T)
      (chain_of_class inside parent ++ (plain_layer name flags fields ∷ []))
  after_desc T (proxy interfaces notes parent) =
      let inside = after_contents (add T pending_entry) notes in
      close (after_class inside parent) (length T) (chain_of_class inside parent ++ (proxy_layer ∷ []))

  pub after_class : Entries → ClassPlaceTree → Entries
  after_class T no_class = T
  after_class T (back_class n) = T
  after_class T (new_class d) = after_desc T d

  pub after_body : Entries → BodyTree → Entries
  after_body T (raw_body ps) = T
  after_body T (value_body vs) = after_values T vs

  pub after_values : Entries → ValueTrees → Entries
  after_values T no_values = T
  after_values T (value_and v vs) = after_values (after_value T v) vs

  pub after_sections : Entries → SectionTrees → Entries
  after_sections T no_sections = T
  after_sections T (section_and (section ps vs n) ss) = after_sections (after_notes (after_values T vs) n) ss

  pub after_notes : Entries → NotesTree → Entries
  after_notes T no_notes = T
  after_notes T (annotation cs) = after_contents T cs

  -- TC_RESET stands at the top alone: within an annotation it changes nothing
  pub after_contents : Entries → ContentTrees → Entries
  after_contents T no_contents = T
  after_contents T (content_and (block long bytes) cs) = after_contents T cs
  after_contents T (content_and reset cs) = after_contents T cs
  after_contents T (content_and (content v) cs) = after_contents (after_value T v) cs

  -- the chain of the class in a class place: the layers of its superclasses, highest first, and its own
  pub chain_of_class : Entries → ClassPlaceTree → List Layer
  chain_of_class T no_class = []
  chain_of_class T (back_class n) = chain_at T n
  chain_of_class T (new_class d) = chain_of_desc T d

  pub chain_of_desc : Entries → DescTree → List Layer
  chain_of_desc T (plain name suid flags fields notes parent) =
      chain_of_class (after_contents (after_fields (add T pending_entry) fields) notes) parent
      ++ (plain_layer name flags fields ∷ [])
  chain_of_desc T (proxy interfaces notes parent) =
      chain_of_class (after_contents (add T pending_entry) notes) parent ++ (proxy_layer ∷ [])

-- a content list: TC_RESET empties the table
abbrev pub table_after : Entries → ContentTrees → Entries
table_after T no_contents = T
table_after T (content_and (block long bytes) cs) = table_after T cs
table_after T (content_and reset cs) = table_after [] cs
table_after T (content_and (content v) cs) = table_after (after_value T v) cs
