-- The units of strings as a graph keeps them.
use Rattle.std.specs.Prelude.{ℕ, ◌≡◌, ◌+◌, ◌<◌, ◌≤◌, Bool, true, false, List, [], ◌++◌, length, take, drop, slice_get, slice_index, Option, Some, None}
use Rattle.jser_prim.specs.ModifiedUtf8.{IsUnits, modified_utf8}
use Rattle.jser_index.specs.declared.spot.Spot.{Spot}
use Rattle.jser_index.specs.declared.spot.Spot.TheVariants as spot

-- those that lie one after another, and the lists of those that do not
pub record Kept : Type 0 where
  pub near : List ℕ
  pub far : List (List ℕ)

-- the list, if there is one
abbrev pub text_or_none : Option (List ℕ) → List ℕ
text_or_none None = []
text_or_none (Some units) = units

-- the units that are kept at a spot
abbrev pub units_at : Kept → Spot → List ℕ
units_at kept (spot.Near start len) = take len (drop start kept.near)
units_at kept (spot.Far number) = text_or_none (slice_get kept.far number)

-- there are units at the spot
abbrev pub IsIn : Kept → Spot → Type 0
IsIn kept (spot.Near start len) = start + len ≤ length kept.near
IsIn kept (spot.Far number) = number < length kept.far

-- what was kept is kept, and more behind it
pub record Extends (old new : Kept) : Type 0 where
  pub near_more : List ℕ
  pub far_more : List (List ℕ)
  pub near_is : new.near ≡ old.near ++ near_more
  pub far_is : new.far ≡ old.far ++ far_more

-- the bytes of a text stand behind these units, each of them a unit, where all of them are below 0x80; else there are no more
abbrev pub AddsNarrow : (bytes : List ℕ) → Bool → (old new : List ℕ) → Type 0
AddsNarrow bytes true old new = (new ≡ old ++ bytes) × ((k : ℕ) → k < length bytes → slice_index bytes k < 0x80)
AddsNarrow bytes false old new = new ≡ old

-- these units are kept at the spot
pub record IsKeptAt (kept : Kept) (spot : Spot) (units : List ℕ) : Type 0 where
  pub within : IsIn kept spot
  pub is : units_at kept spot ≡ units

-- the units of the text are kept at the spot
pub record HasTextAt (kept : Kept) (spot : Spot) (text : List ℕ) : Type 0 where
  pub within : IsIn kept spot
  pub spelled : (told : List ℕ) → IsUnits told → modified_utf8 told ≡ text → units_at kept spot ≡ told

-- the next units would be kept there
abbrev pub IsNext : List ℕ → ℕ → Spot → Type 0
IsNext near count (spot.Near start len) = (start ≡ length near) × (len ≡ count)
IsNext near count (spot.Far number) = ⊥

-- each front of the old room is one of the new room
pub record KeepsFronts (old new : List ℕ) : Type 0 where
  pub size : length old ≤ length new
  pub fronts : (n : ℕ) → n ≤ length old → take n new ≡ take n old

-- what is used of the room is as it was, and these units stand behind it
pub record PutsUnits (units : List ℕ) (used : ℕ) (old new : List ℕ) : Type 0 where
  pub front : take used new ≡ take used old
  pub back : take (length units) (drop used new) ≡ units
