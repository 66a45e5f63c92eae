-- Sections: what an object's data holds for one class of its chain (Java Object Serialization Specification,
-- section 6.4.2, classdata). A layer with fields or an annotation is *filled*; the others have no section.
-- Sections are numbered in the order in which their classes were closed, and stand in an object's data from
-- the highest superclass down. So an object's sections are told by the *last* of them, that of its own class
-- or of the lowest superclass that has one.
use Rattle.std.specs.Prelude.{ℕ, ◌≡◌, ◌<◌, Bool, false, IsTrue, List, [], length, drop, map, slice_index_or, Option, Some, None, ◌∷◌}
use Rattle.std.specs.List.{filter}
use Rattle.jser_table.specs.declared.layer.Layer.{Layer}
use Rattle.jser_table.specs.declared.layer.LayerKind.TheVariants as kind
use Rattle.jser_table.specs.declared.section.Section.{Section}
use Rattle.jser_table.specs.declared.section.Sections.{Sections}
use Rattle.jser_table.specs.Codes.{primitive_codes, object_count, raw_size}
use Rattle.jser_table.specs.Chains.{own_layer, is_filled, has_write_method, IsFront}

-- the layers of a chain that have a section
abbrev pub filled_layers : List Layer → List Layer
filled_layers chain = filter is_filled chain

abbrev pub is_filled_own : Option Layer → Bool
is_filled_own None = false
is_filled_own (Some own) = is_filled own

-- the class itself has a section
abbrev pub ends_filled : List Layer → Bool
ends_filled chain = is_filled_own (own_layer chain)

-- For each section the filled layers from the highest superclass down to its own, where `chains` are those of
-- all classes in the order in which they were closed.
unfoldable pub sections_of : List (List Layer) → List (List Layer)
sections_of chains = map filled_layers (filter ends_filled chains)

-- there is a section with this number
abbrev pub HasSection : List (List Layer) → ℕ → Type 0
HasSection chains section = section < length (sections_of chains)

-- the filled layers down to this section
unfoldable pub down_to : List (List Layer) → (section : ℕ) → List Layer
down_to chains section = slice_index_or (sections_of chains) section []

abbrev pub no_layer : Layer
no_layer = record { kind = kind.Other; flags = 0; codes = [] }

abbrev pub or_no_layer : Option Layer → Layer
or_no_layer None = no_layer
or_no_layer (Some layer) = layer

-- the layer of this section
unfoldable pub layer_of : List (List Layer) → (section : ℕ) → Layer
layer_of chains section = or_no_layer (own_layer (down_to chains section))

-- the filled layers that come after this section, in an object's data that end with the section `last`
unfoldable pub under : List (List Layer) → (last section : ℕ) → List Layer
under chains last section = drop (length (down_to chains section)) (down_to chains last)

-- data that end with the section `last` hold this one
pub record IsOn (chains : List (List Layer)) (last section : ℕ) : Type 0 where
  pub last_in : HasSection chains last
  pub section_in : HasSection chains section
  pub front : IsFront (down_to chains section) (down_to chains last)
  pub filled : IsTrue (is_filled (layer_of chains section))

-- what an object's data hold for a layer
pub record HoldsFor (layer : Layer) (section : Section) : Type 0 where
  pub prims : section.prims ≡ length (primitive_codes layer.codes)
  pub values : section.values ≡ object_count layer.codes
  pub annotated : section.is_annotated ≡ has_write_method layer.flags
  pub raw_bytes : section.raw_bytes ≡ raw_size (primitive_codes layer.codes)

-- the section that comes after this one, if there is one
abbrev pub IsNext : List (List Layer) → (last section : ℕ) → Option ℕ → Type 0
IsNext chains last section None = under chains last section ≡ []
IsNext chains last section (Some next) =
    IsOn chains last next × (under chains last section ≡ layer_of chains next ∷ under chains last next)

-- the sections of an object's data of this chain, if there are any
abbrev pub AreSections : List (List Layer) → (chain : List Layer) → Option Sections → Type 0
AreSections chains chain None = filled_layers chain ≡ []
AreSections chains chain (Some sections) =
    IsOn chains sections.last sections.first
    × (filled_layers chain ≡ layer_of chains sections.first ∷ under chains sections.last sections.first)
