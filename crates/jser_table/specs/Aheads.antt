-- The sections that are kept ahead: each is the one that has as many above it as its place tells.
use Rattle.std.specs.Prelude.{ℕ, ◌≡◌, ◌+◌, ◌<◌, List, length, slice_get, Some, None}
use Rattle.jser_table.specs.declared.layer.Layer.{Layer}
use Rattle.jser_table.specs.declared.ahead.Ahead.{Ahead}
use Rattle.jser_table.specs.declared.descriptor.Descriptor.{Descriptor}
use Rattle.jser_table.specs.declared.descriptor.Filed.{Filed}
use Rattle.jser_table.specs.Descriptors.{AreShelved, chains_of}
use Rattle.jser_table.specs.declared.walks.Way.{Way}
use Rattle.jser_table.specs.declared.walks.Way.TheVariants as way
use Rattle.jser_table.specs.Sections.{down_to, IsNext}
use Rattle.jser_table.specs.Upwards.{IsAfter}

-- this section is kept as the one that has so many above it in the data that end with the section `last`
pub record IsKept (ahead : Ahead) (last before section : ℕ) : Type 0 where
  pub last_is : ahead.last ≡ last
  pub place : ℕ
  pub is : slice_get ahead.sections.items place ≡ Some section
  pub below : place + before ≡ ahead.lowest

-- those that are kept are such sections
abbrev pub AreAhead : List (List Layer) → Ahead → Type 0
AreAhead chains ahead = (last before section : ℕ) → IsKept ahead last before section → IsAfter chains last before section

-- where the section after this one is found
abbrev pub IsWay : List (List Layer) → (last section : ℕ) → Way → Type 0
IsWay chains last section way.End = IsNext chains last section None
IsWay chains last section (way.Path next) = IsNext chains last section (Some next)
IsWay chains last section (way.Walk before) = (before ≡ length (down_to chains section)) × (before < length (down_to chains last))

-- the descriptors and their sections, and those that are kept ahead
pub record AreWhole (descriptors : List Descriptor) (sections : List Filed) (ahead : Ahead) : Type 0 where
  pub shelved : AreShelved descriptors sections
  pub ahead_is : AreAhead (chains_of descriptors) ahead
