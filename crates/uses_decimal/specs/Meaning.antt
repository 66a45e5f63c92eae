-- What it means that a decimal is the shortest of a float, however it is found (`Double.toString`, since Java 19): of the decimals that read back
-- those with the fewest digits are looked at, or with two where one is enough; of these it is the nearest to the float, and of two the even one.
use Rattle.std.specs.Prelude.{ℕ, ◌≡◌, ◌≢◌, ◌<◌, ◌≤◌, ◌+◌, ◌-◌, ◌*◌, ◌/◌, ◌%◌, ◌^◌, Bool, true, not}
use Rattle.jser_decimal.specs.declared.Decimal.{Decimal}
use Rattle.jser_decimal.specs.Shortest.{Range, reads_back}

-- a size that a float can have: a significand of at most 53 bits, and of none but the first of them at an edge
pub record IsSize (least significand power : ℕ) (at_edge : Bool) : Type 0 where
  pub kind : least ≤ 1074
  pub within : power ≤ least + 1000
  pub some : 0 < significand
  pub bits : significand < 2 ^ 53
  pub edge : at_edge ≡ true → significand ≤ 2 ^ 52

-- how far so many units are from the size, in parts
abbrev pub distance : Range → (units : ℕ) → ℕ
distance range units = (range.middle - units * range.unit) + (units * range.unit - range.middle)

-- ---- digits, of 17

-- no more of its last digits than these may be left out; two are always told
abbrev pub LeavesNoMore : (units more : ℕ) → Type 0
LeavesNoMore units more = (more ≤ 15) × (more < 15 → units % 10 ^ (more + 1) ≢ 0)

-- Other decimals may stand at any place. `range` has what each place is measured with.
pub record IsShortest (range : (place : ℕ) → Range) (taken : Decimal) : Type 0 where
  -- the size has 17 digits of its units
  pub least : 10 ^ 16 * (range taken.place).unit ≤ (range taken.place).middle
  pub most : (range taken.place).middle < 10 ^ 17 * (range taken.place).unit
  -- it reads back
  pub back : reads_back (range taken.place) taken.units ≡ true
  -- where another one does that has some digits less than 17, so many may be left out of this one too
  pub fewest : (more place count : ℕ) → more ≤ 15 → count < 10 ^ (17 - more) → reads_back (range place) count ≡ true → taken.units % 10 ^ more ≡ 0
  -- no other that has as few digits is nearer
  pub nearest : (more place count : ℕ) → LeavesNoMore taken.units more → count < 10 ^ (17 - more) → reads_back (range place) count ≡ true
      → distance (range taken.place) taken.units ≤ distance (range place) count
  -- and where one is as near, the last digit of this one is even
  pub even : (more place count : ℕ) → LeavesNoMore taken.units more → count < 10 ^ (17 - more) → reads_back (range place) count ≡ true
      → distance (range taken.place) taken.units ≡ distance (range place) count → taken.units * (range taken.place).unit ≢ count * (range place).unit
      → taken.units / 10 ^ more % 2 ≡ 0

-- ---- two floats

-- The ranges of two floats meet half way between them, and one of the two takes that point.
pub record MeetHalfWay (this next : Range) : Type 0 where
  pub point : next.low ≡ this.high
  pub half : this.middle + next.middle ≡ 2 * this.high
  pub either : next.ends ≡ not this.ends
