-- Chains of classes. A chain is the whole list of a class's layers, the highest superclass first and its
-- own layer last; each layer has the flags of its descriptor (`java.io.ObjectStreamConstants`, SC_*).
use Rattle.std.specs.Prelude.{ℕ, ◌≡◌, ◌++◌, length, slice_index_or, ◌+◌, ◌/◌, ◌%◌, Bool, true, false, not, ◌==◌, ◌&&◌, ◌||◌, List, [], ◌∷◌, drop, position, Option, Some, None, option_map}
use Rattle.jser_table.specs.declared.layer.BodyKind.{BodyKind}
use Rattle.jser_table.specs.declared.layer.BodyKind.TheVariants as body
use Rattle.jser_table.specs.declared.layer.LayerKind.{LayerKind}
use Rattle.jser_table.specs.declared.layer.LayerKind.TheVariants as kind
use Rattle.jser_table.specs.declared.layer.Layer.{Layer}
use Rattle.jser_table.specs.Codes.{PrimCode, prim_code_of}

-- 01, SC_WRITE_METHOD: the class writes an annotation behind its fields
abbrev pub has_write_method : ℕ → Bool
has_write_method flags = flags % 2 == 1

-- 02, SC_SERIALIZABLE
abbrev pub is_serializable : ℕ → Bool
is_serializable flags = flags / 2 % 2 == 1

-- 04, SC_EXTERNALIZABLE
abbrev pub is_externalizable : ℕ → Bool
is_externalizable flags = flags / 4 % 2 == 1

-- 08, SC_BLOCK_DATA: an externalizable class writes block data
abbrev pub has_block_data : ℕ → Bool
has_block_data flags = flags / 8 % 2 == 1

-- 10, SC_ENUM
abbrev pub is_enum : ℕ → Bool
is_enum flags = flags / 16 % 2 == 1

abbrev pub is_proxy_kind : LayerKind → Bool
is_proxy_kind kind.Proxy = true
is_proxy_kind (kind.Array body) = false
is_proxy_kind kind.Other = false

abbrev pub is_array_kind : LayerKind → Bool
is_array_kind kind.Proxy = false
is_array_kind (kind.Array body) = true
is_array_kind kind.Other = false

-- there is no such code
abbrev pub is_empty : List ℕ → Bool
is_empty [] = true
is_empty (code ∷ codes) = false

-- the class that the class place names: the last layer
abbrev pub own_layer : List Layer → Option Layer
own_layer [] = None
own_layer (layer ∷ []) = Some layer
own_layer (layer ∷ next ∷ layers) = own_layer (next ∷ layers)

-- a proxy, or a class with flag 02
abbrev pub is_serial_kind : LayerKind → ℕ → Bool
is_serial_kind kind.Proxy flags = true
is_serial_kind (kind.Array body) flags = is_serializable flags
is_serial_kind kind.Other flags = is_serializable flags

abbrev pub is_serial : Layer → Bool
is_serial layer = is_serial_kind layer.kind layer.flags

-- each layer is a proxy or has flag 02
abbrev pub all_serial : List Layer → Bool
all_serial [] = true
all_serial (layer ∷ layers) = is_serial layer && all_serial layers

-- A class writes something for its objects: fields, or an annotation. (That a proxy has no fields and no flags is a matter of
-- the grammar; here a layer is as it was given.)
abbrev pub is_filled : Layer → Bool
is_filled layer = not (is_empty layer.codes) || has_write_method layer.flags

-- the index of the first layer, at k or after it, for which an object holds something to read
abbrev pub next_filled : List Layer → ℕ → Option ℕ
next_filled chain k = option_map (λ j. k + j) (position is_filled (drop k chain))

-- the class named by the object itself is externalizable
abbrev pub is_external_layer : Option Layer → Bool
is_external_layer None = false
is_external_layer (Some own) = is_externalizable own.flags

abbrev pub is_external : List Layer → Bool
is_external chain = is_external_layer (own_layer chain)

-- the elements of an array of this class: raw values of one type, or values
abbrev pub elements_of_body : BodyKind → Option PrimCode
elements_of_body (body.Prim c) = prim_code_of c
elements_of_body body.Values = None

abbrev pub elements_of_kind : LayerKind → Option PrimCode
elements_of_kind kind.Proxy = None
elements_of_kind (kind.Array elements) = elements_of_body elements
elements_of_kind kind.Other = None

abbrev pub elements_of_layer : Option Layer → Option PrimCode
elements_of_layer None = None
elements_of_layer (Some own) = elements_of_kind own.kind

abbrev pub elements_of : List Layer → Option PrimCode
elements_of chain = elements_of_layer (own_layer chain)

-- the chain with this number, where the chains are those of all classes in the order in which they were closed
abbrev pub chain_in : List (List Layer) → ℕ → List Layer
chain_in chains number = slice_index_or chains number []

-- `whole` begins with `front`
pub record IsFront (front whole : List Layer) : Type 0 where
  pub rest : whole ≡ front ++ drop (length front) whole
