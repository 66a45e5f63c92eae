-- What is known of the handles of an epoch as a stream goes by (Java Object Serialization Specification, section 6.4:
-- newHandle): the table of handles of `jser_grammar`, with the names of classes and of their fields. An entry is a
-- string, a class object, array, enum constant or object, a descriptor whose superclass place has not ended, or a
-- class with its chain, the highest superclass first.
use Rattle.std.specs.Prelude.{ℕ, ◌==◌, Bool, false, List, [], ◌∷◌, ◌++◌, length, slice_get, slice_set, if◌then◌else◌, Option, Some, None, is_some}
use Rattle.jser_table.specs.Chains.{has_write_method, is_externalizable}
use Rattle.jser_grammar.specs.Codes.{PrimCode, prim_code_of}
use Rattle.jser_shown.specs.Words.{Epoch, next_epoch}
use Rattle.jser_grammar.specs.Trees.{TextPlaceTree, new_text, back_text, FieldTree, ValueTree, null, back, string, descriptor, class_object, array, enum_constant, object, DescTree, plain, proxy, ClassPlaceTree, no_class, back_class, new_class, BodyTree, raw_body, value_body, ValueTrees, no_values, value_and, section, SectionTrees, no_sections, section_and, NotesTree, no_notes, annotation, block, reset, content, ContentTrees, no_contents, content_and}

-- a field of a class
pub record NamedField : Type 0 where
  pub code : ℕ
  pub name : List ℕ

-- a class of a chain
pub data NamedLayer : Type 0 where
  class_layer : (name : List ℕ) (flags : ℕ) → List NamedField → NamedLayer
  proxy_layer : NamedLayer

-- an entry
pub data KnownEntry : Type 0 where
  known_text known_other known_pending : KnownEntry
  known_class : List NamedLayer → KnownEntry

abbrev pub Known : Type 0
Known = List KnownEntry

abbrev pub classes_in : Option KnownEntry → List NamedLayer
classes_in None = []
classes_in (Some known_text) = []
classes_in (Some known_other) = []
classes_in (Some known_pending) = []
classes_in (Some (known_class chain)) = chain

-- the chain of the class with this number
abbrev pub classes_at : Known → ℕ → List NamedLayer
classes_at T n = classes_in (slice_get T n)

-- with one entry more, at the end
abbrev pub with_entry : Known → KnownEntry → Known
with_entry T entry = T ++ (entry ∷ [])

abbrev pub named_fields : List FieldTree → List NamedField
named_fields [] = []
named_fields (f ∷ fs) = record { code = f.code; name = f.name } ∷ named_fields fs

abbrev pub known_text_place : Known → TextPlaceTree → Known
known_text_place T (new_text t) = with_entry T known_text
known_text_place T (back_text n) = T

abbrev pub known_type : Known → Option TextPlaceTree → Known
known_type T None = T
known_type T (Some t) = known_text_place T t

abbrev pub known_fields : Known → List FieldTree → Known
known_fields T [] = T
known_fields T (f ∷ fs) = known_fields (known_type T f.text) fs

-- what is known after a tree
abbrev mutual
  pub known_value : Known → ValueTree → Known
  known_value T null = T
  known_value T (back n) = T
  known_value T (string t) = with_entry T known_text
  known_value T (descriptor d) = known_desc T d
  known_value T (class_object c) = with_entry (known_class_place T c) known_other
  known_value T (array c b) = known_body (with_entry (known_class_place T c) known_other) b
  known_value T (enum_constant c t) = known_text_place (with_entry (known_class_place T c) known_other) t
  known_value T (object c ss) = known_sections (with_entry (known_class_place T c) known_other) ss

  pub known_desc : Known → DescTree → Known
  known_desc T (plain name suid flags fields notes parent) =
      let inside = known_contents (known_fields (with_entry T known_pending) fields) notes in
      slice_set (known_class_place inside parent) (length T)
      (known_class (classes_of inside parent ++ (class_layer name flags (named_fields fields) ∷ [])))
  known_desc T (proxy interfaces notes parent) =
      let inside = known_contents (with_entry T known_pending) notes in
      slice_set (known_class_place inside parent) (length T)
      (known_class (classes_of inside parent ++ (proxy_layer ∷ [])))

  pub known_class_place : Known → ClassPlaceTree → Known
  known_class_place T no_class = T
  known_class_place T (back_class n) = T
  known_class_place T (new_class d) = known_desc T d

  pub known_body : Known → BodyTree → Known
  known_body T (raw_body ps) = T
  known_body T (value_body vs) = known_values T vs

  pub known_values : Known → ValueTrees → Known
  known_values T no_values = T
  known_values T (value_and v vs) = known_values (known_value T v) vs

  pub known_sections : Known → SectionTrees → Known
  known_sections T no_sections = T
  known_sections T (section_and (section ps vs n) ss) = known_sections (known_notes (known_values T vs) n) ss

  pub known_notes : Known → NotesTree → Known
  known_notes T no_notes = T
  known_notes T (annotation cs) = known_contents T cs

  pub known_contents : Known → ContentTrees → Known
  known_contents T no_contents = T
  known_contents T (content_and (block long bytes) cs) = known_contents T cs
  known_contents T (content_and reset cs) = known_contents T cs
  known_contents T (content_and (content v) cs) = known_contents (known_value T v) cs

  -- the chain of the class in a class place
  pub classes_of : Known → ClassPlaceTree → List NamedLayer
  classes_of T no_class = []
  classes_of T (back_class n) = classes_at T n
  classes_of T (new_class d) = classes_of_desc T d

  pub classes_of_desc : Known → DescTree → List NamedLayer
  classes_of_desc T (plain name suid flags fields notes parent) =
      classes_of (known_contents (known_fields (with_entry T known_pending) fields) notes) parent
      ++ (class_layer name flags (named_fields fields) ∷ [])
  classes_of_desc T (proxy interfaces notes parent) =
      classes_of (known_contents (with_entry T known_pending) notes) parent ++ (proxy_layer ∷ [])

-- at the end of a content list: the epoch, which each TC_RESET at the top ends, and what is known

abbrev pub last_epoch : Epoch → ContentTrees → Epoch
last_epoch e no_contents = e
last_epoch e (content_and (block long bytes) cs) = last_epoch e cs
last_epoch e (content_and reset cs) = last_epoch (next_epoch e) cs
last_epoch e (content_and (content v) cs) = last_epoch e cs

abbrev pub last_known : Known → ContentTrees → Known
last_known T no_contents = T
last_known T (content_and (block long bytes) cs) = last_known T cs
last_known T (content_and reset cs) = last_known [] cs
last_known T (content_and (content v) cs) = last_known (known_value T v) cs

-- of a class: its primitive fields, the names of its object fields, and whether it has SC_WRITE_METHOD

abbrev pub prim_fields : List NamedField → List NamedField
prim_fields [] = []
prim_fields (f ∷ fs) = if is_some (prim_code_of f.code) then f ∷ prim_fields fs else prim_fields fs

abbrev pub object_names : List NamedField → List (List ℕ)
object_names [] = []
object_names (f ∷ fs) = if is_some (prim_code_of f.code) then object_names fs else f.name ∷ object_names fs

abbrev pub fields_in : NamedLayer → List NamedField
fields_in (class_layer name flags fields) = fields
fields_in proxy_layer = []

-- The type of the elements of an array class of a primitive, by its name: `[` and a type code.
abbrev pub named_elements : List ℕ → Option PrimCode
named_elements [] = None
named_elements (b ∷ []) = None
named_elements (b ∷ c ∷ []) = if b == 0x5B then prim_code_of c else None
named_elements (b ∷ c ∷ d ∷ units) = None

abbrev pub elements_in : NamedLayer → Option PrimCode
elements_in (class_layer name flags fields) = named_elements name
elements_in proxy_layer = None

abbrev pub has_notes : NamedLayer → Bool
has_notes (class_layer name flags fields) = has_write_method flags
has_notes proxy_layer = false

-- the own class of a chain is externalizable
abbrev pub is_external_class : NamedLayer → Bool
is_external_class (class_layer name flags fields) = is_externalizable flags
is_external_class proxy_layer = false

abbrev pub own_class_of : List NamedLayer → NamedLayer
own_class_of [] = proxy_layer
own_class_of (layer ∷ []) = layer
own_class_of (layer ∷ next ∷ layers) = own_class_of (next ∷ layers)

abbrev pub is_external_chain : List NamedLayer → Bool
is_external_chain chain = is_external_class (own_class_of chain)

-- the type of the elements of an array of this class, where it is primitive
abbrev pub elements_of_chain : List NamedLayer → Option PrimCode
elements_of_chain chain = elements_in (own_class_of chain)
