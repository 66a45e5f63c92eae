-- Ranges as the code measures them.
use Rattle.std.specs.Prelude.{ℕ, ◌≡◌, ◌<◌, ◌+◌, ◌*◌, ◌/◌, ◌%◌, ◌^◌, ◌==◌, min, length}
use Rattle.jser_decimal.specs.declared.big.Big.{Big}
use Rattle.jser_decimal.specs.declared.shortest.Measure.{Measure}
use Rattle.jser_decimal.specs.declared.shortest.Size.{Size}
use Rattle.jser_decimal.specs.Bigs.{worth}
use Rattle.jser_decimal.specs.Shortest as pure

abbrev pub number : Big → ℕ
number big = worth big.limbs.items

abbrev pub view_range : Measure → pure.Range
view_range m = record { unit = number m.unit; low = number m.low; middle = number m.middle; high = number m.high; ends = m.ends }

-- there is room to multiply them
pub record IsRoomy (m : Measure) : Type 0 where
  pub unit : length m.unit.limbs.items < 40
  pub middle : length m.middle.limbs.items < 40

-- so many whole units are in the size
pub record AreWhole (m : Measure) (all : ℕ) : Type 0 where
  pub count : all ≡ number m.middle / number m.unit
  pub digits : all < 10 ^ 17

-- ---- without common factors

-- what the numbers of a range at this place have in common, at the least
abbrev pub common : (least power place : ℕ) → ℕ
common least power place = 2 ^ min power (least + 2) * 10 ^ min place 344

-- all numbers of a range times a factor
abbrev pub scaled : (factor : ℕ) → pure.Range → pure.Range
scaled factor range = record {
  unit = range.unit * factor;
  low = range.low * factor;
  middle = range.middle * factor;
  high = range.high * factor;
  ends = range.ends;
}

-- it measures decimals at this place, without that factor
pub record IsMeasured (least : ℕ) (size : Size) (place : ℕ) (m : Measure) : Type 0 where
  pub unit : number m.unit * common least size.power place ≡ pure.unit_at least place
  pub low : number m.low * common least size.power place ≡ pure.quarter_at size.power * pure.low_quarters size
  pub middle : number m.middle * common least size.power place ≡ pure.quarter_at size.power * (size.significand * 4)
  pub high : number m.high * common least size.power place ≡ pure.quarter_at size.power * (size.significand * 4 + 2)
  pub ends : m.ends ≡ (size.significand % 2 == 0)
