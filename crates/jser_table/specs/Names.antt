-- Names of classes, as lists of 16-bit units. A name that begins with `[` is that of an array class
-- (`java.lang.Class.getName`): one or more `[`, and then a letter of BCDFIJSZ for elements of a primitive
-- type, or `L`, any units and `;`.
use Rattle.std.specs.Prelude.{ℕ, Bool, false, ◌||◌, ◌==◌, if◌then◌else◌, codes, List, [], ◌∷◌, Option, Some, None}
use Rattle.std.specs.List.{list_any}
use Rattle.std.specs.Str.{bytes_eq}
use Rattle.jser_table.specs.declared.layer.BodyKind.{BodyKind}
use Rattle.jser_table.specs.declared.layer.BodyKind.TheVariants.{Prim, Values}
use Rattle.jser_table.specs.declared.layer.LayerKind.{LayerKind}
use Rattle.jser_table.specs.declared.layer.LayerKind.TheVariants as kind
use Rattle.jser_table.specs.declared.name.Element.{Element}
use Rattle.jser_table.specs.declared.name.Element.TheVariants.{Name, Primitive, Malformed}

-- the letter is the type code of a primitive
abbrev pub is_primitive_code : ℕ → Bool
is_primitive_code c = c == 0x42 || c == 0x43 || c == 0x44 || c == 0x46 || c == 0x49 || c == 0x4A || c == 0x53 || c == 0x5A

-- the last unit is this one
abbrev pub ends_in : ℕ → List ℕ → Bool
ends_in last [] = false
ends_in last (c ∷ []) = c == last
ends_in last (c ∷ d ∷ units) = ends_in last (d ∷ units)

-- all units but the last
abbrev pub all_but_last : List ℕ → List ℕ
all_but_last [] = []
all_but_last (c ∷ []) = []
all_but_last (c ∷ d ∷ units) = c ∷ all_but_last (d ∷ units)

-- What a name says of its class: it is no array, it is an array with such elements, or the name begins
-- with `[` and is no array name.
pub data NameKind : Type 0 where
  plain_name : NameKind
  array_name : BodyKind → NameKind
  malformed_name : NameKind

-- a letter and nothing more: elements of that primitive
abbrev pub primitive_array : ℕ → List ℕ → NameKind
primitive_array c [] = if is_primitive_code c then array_name (Prim c) else malformed_name
primitive_array c (d ∷ units) = malformed_name

-- one more `[` in front of an array name: an array of arrays
abbrev pub array_of_arrays : NameKind → NameKind
array_of_arrays (array_name body) = array_name Values
array_of_arrays plain_name = malformed_name
array_of_arrays malformed_name = malformed_name

-- what stands behind a `[`
abbrev pub array_kind : List ℕ → NameKind
array_kind [] = malformed_name
array_kind (c ∷ units) =
    if c == 0x5B then array_of_arrays (array_kind units)
    else (if c == 0x4C then (if ends_in 0x3B units then array_name Values else malformed_name)
    else (primitive_array c units))

-- what a name says of its class
abbrev pub name_kind : List ℕ → NameKind
name_kind [] = plain_name
name_kind (c ∷ units) = if c == 0x5B then array_kind units else plain_name

-- What a filter judges a name by: these units; nothing, since it is a primitive type or an array of
-- primitives and names no class; or nothing, since it is malformed.
pub data ElementOf : Type 0 where
  element : List ℕ → ElementOf
  primitive_element malformed_element : ElementOf

-- the names of the primitive types, and `void`
abbrev pub primitive_names : List (List ℕ)
primitive_names =
    codes "boolean" ∷ codes "byte" ∷ codes "char" ∷ codes "double" ∷ codes "float" ∷ codes "int" ∷ codes "long" ∷ codes "short" ∷ codes "void" ∷ []

-- a letter and nothing more
abbrev pub primitive_array_element : ℕ → List ℕ → ElementOf
primitive_array_element c [] = if is_primitive_code c then primitive_element else malformed_element
primitive_array_element c (d ∷ units) = malformed_element

-- what stands behind an `L`: a class, up to the `;` that ends the name
abbrev pub class_element : List ℕ → ElementOf
class_element units = if ends_in 0x3B units then element (all_but_last units) else malformed_element

-- what stands behind a `[`: an array is judged by its elements
abbrev pub array_element : List ℕ → ElementOf
array_element [] = malformed_element
array_element (c ∷ units) =
    if c == 0x5B then array_element units
    else (if c == 0x4C then class_element units
    else (primitive_array_element c units))

abbrev pub is_primitive_name : List ℕ → Bool
is_primitive_name name = list_any (bytes_eq name) primitive_names

-- a name that does not begin with `[` is judged by itself
abbrev pub plain_element : List ℕ → ElementOf
plain_element name = if is_primitive_name name then primitive_element else element name

-- what a name is judged by
abbrev pub element_of : List ℕ → ElementOf
element_of [] = element []
element_of (c ∷ units) = if c == 0x5B then array_element units else plain_element (c ∷ units)

-- the kind of the layer that a plain descriptor of this name makes
abbrev pub layer_kind : NameKind → LayerKind
layer_kind plain_name = kind.Other
layer_kind (array_name body) = kind.Array body
layer_kind malformed_name = kind.Other

-- the same, and nothing for a malformed name
abbrev pub view_kind : NameKind → Option LayerKind
view_kind plain_name = Some kind.Other
view_kind (array_name body) = Some (kind.Array body)
view_kind malformed_name = None

-- an answer of the call `element_of`, seen as the definition's
abbrev pub view_element : Element → ElementOf
view_element (Name units) = element units.now
view_element Primitive = primitive_element
view_element Malformed = malformed_element
