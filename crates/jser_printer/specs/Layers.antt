-- The classes of chains, and the fields of a class by their places.
use Rattle.std.specs.Prelude.{ℕ, ◌≡◌, ◌+◌, ◌<◌, Bool, List, [], ◌∷◌, length, map, drop, slice_index_or, Option, Some, None, is_some}
use Rattle.jser_grammar.specs.Codes.{prim_code_of}
use Rattle.jser_shown.specs.Known.{NamedLayer, class_layer, proxy_layer, prim_fields, object_names}
use Rattle.jser_shown.specs.Known.{NamedField as ToldField}
use Rattle.jser_printer.specs.declared.layer.Layer.{Layer}
use Rattle.jser_printer.specs.declared.layer.Layer.TheVariants as layer
use Rattle.jser_printer.specs.declared.layer.NamedField.{NamedField}

abbrev pub view_field : NamedField → ToldField
view_field f = record { code = f.code; name = f.name }

abbrev pub view_fields : List NamedField → List ToldField
view_fields fields = map view_field fields

abbrev pub view_layer : Layer → NamedLayer
view_layer (layer.Class name flags fields) = class_layer name flags (view_fields fields.items)
view_layer layer.Proxy = proxy_layer

abbrev pub view_layers : List Layer → List NamedLayer
view_layers layers = map view_layer layers

abbrev pub no_field : ToldField
no_field = record { code = 0; name = [] }

abbrev pub field_at : List ToldField → ℕ → ToldField
field_at fields i = slice_index_or fields i no_field

-- the field at this place is of a primitive type
abbrev pub is_raw_at : List ToldField → ℕ → Bool
is_raw_at fields i = is_some (prim_code_of (field_at fields i).code)

-- the next field of a primitive type, at `from` or after it
abbrev pub NextRaw : List ToldField → (from : ℕ) → Option ℕ → Type 0
NextRaw fields from None = prim_fields (drop from fields) ≡ []
NextRaw fields from (Some i) =
    (i < length fields) × (prim_fields (drop from fields) ≡ field_at fields i ∷ prim_fields (drop (i + 1) fields))

-- the next field of another type
abbrev pub NextValue : List ToldField → (from : ℕ) → Option ℕ → Type 0
NextValue fields from None = object_names (drop from fields) ≡ []
NextValue fields from (Some i) =
    (i < length fields)
    × (object_names (drop from fields) ≡ (field_at fields i).name ∷ object_names (drop (i + 1) fields))
