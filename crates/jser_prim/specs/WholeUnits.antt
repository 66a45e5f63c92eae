-- Whole units, found without a scan's state: how `push_all` goes over many bytes at once.
use Rattle.std.specs.Prelude.{◌≡◌, ◌<◌, ◌≤◌, ◌==◌, ◌+◌, ◌-◌, ◌%◌, ℕ, List, ◌++◌, length, take, drop, slice_index, if◌then◌else◌}
use Rattle.std.specs.Int.{trailing_zeros, w64}
use Rattle.jser_prim.specs.ModifiedUtf8.{IsUnits, modified_utf8, unit_spelling}

-- these bytes are a unit's spelling
pub record IsUnitSpelled (bytes : List ℕ) : Type 0 where
  pub unit : ℕ
  pub is_unit : unit < 0x10000
  pub spelled : unit_spelling unit ≡ bytes

-- these bytes are the spellings of some units
pub record AreUnitsSpelled (bytes : List ℕ) : Type 0 where
  pub units : List ℕ
  pub are_units : IsUnits units
  pub spelled : modified_utf8 units ≡ bytes

-- these bytes are the spellings of some units, at least one, and then the tail
pub record FollowsUnits (bytes tail : List ℕ) : Type 0 where
  pub front : List ℕ
  pub units : AreUnitsSpelled front
  pub some : 0 < length front
  pub split : bytes ≡ front ++ tail

-- these bytes are the spellings of some units, or of none, and then the tail
pub record PassesUnits (bytes tail : List ℕ) : Type 0 where
  pub front : List ℕ
  pub units : AreUnitsSpelled front
  pub split : bytes ≡ front ++ tail

-- the bytes from a place on, up to another, are the spellings of some units
abbrev pub AreUnitsBetween : List ℕ → ℕ → ℕ → Type 0
AreUnitsBetween bytes from to = AreUnitsSpelled (take (to - from) (drop from bytes))

-- each byte from a place on, up to another, is a unit of one byte
abbrev pub IsAsciiBetween : List ℕ → ℕ → ℕ → Type 0
IsAsciiBetween bytes from to = (k : ℕ) → from ≤ k → k < to → (1 ≤ slice_index bytes k) × (slice_index bytes k < 0x80)

-- each of 16 bytes from a place on is above its least value, modulo 256, by no more than its span
abbrev pub IsWithinLanes : List ℕ → ℕ → List ℕ → List ℕ → Type 0
IsWithinLanes bytes at least span = (k : ℕ) → k < 16 → (slice_index bytes (at + k) + (256 - slice_index least k)) % 256 ≤ slice_index span k

-- the place of the lowest bit of a mask that is set, or the number of lanes
abbrev pub first_set : ℕ → ℕ → ℕ
first_set mask lanes = if mask == 0 then lanes else trailing_zeros w64 mask
