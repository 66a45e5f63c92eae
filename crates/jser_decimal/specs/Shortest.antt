-- The shortest decimal that reads back as a float (IEEE 754, sections 3.4 and 4.3.1; `Double.toString`, since Java 19).
-- A size is counted in parts so small that each float, each point half way between two and each decimal is a whole number of them:
-- 10^344 * 2^(least + 2) parts are one. A decimal is a number of units, each 10^place parts of 10^-344.
use Rattle.std.specs.Prelude.{ℕ, zero, suc, ◌+◌, ◌-◌, ◌*◌, ◌/◌, ◌%◌, ◌^◌, ◌==◌, nat_lt, Bool, true, false, ◌&&◌, if◌then◌else◌, Option, Some, None}
use Rattle.jser_decimal.specs.declared.shortest.Decimal.{Decimal}
use Rattle.jser_decimal.specs.declared.shortest.Size.{Size}
use Rattle.jser_decimal.specs.Bigs.{below}

-- ---- in parts

-- a quarter of the gap between floats of this power
abbrev pub quarter_at : (power : ℕ) → ℕ
quarter_at power = 2 ^ power * 10 ^ 344

-- one unit at this place
abbrev pub unit_at : (least place : ℕ) → ℕ
unit_at least place = 2 ^ (least + 2) * 10 ^ place

-- what decimals of this unit are measured with: the size, the points half way to the next floats, and whether these read back as it
pub record Range : Type 0 where
  pub unit : ℕ
  pub low : ℕ
  pub middle : ℕ
  pub high : ℕ
  pub ends : Bool

-- half way to the next smaller float, in quarters
abbrev pub low_quarters : Size → ℕ
low_quarters size = size.significand * 4 - (if size.at_edge then 1 else 2)

abbrev pub range_at : (least place : ℕ) → Size → Range
range_at least place size = record {
  unit = unit_at least place;
  low = quarter_at size.power * low_quarters size;
  middle = quarter_at size.power * (size.significand * 4);
  high = quarter_at size.power * (size.significand * 4 + 2);
  ends = size.significand % 2 == 0;
}

-- so many units read back as the float
abbrev pub reads_back : Range → ℕ → Bool
reads_back range units = below range.ends range.low (units * range.unit) && below range.ends (units * range.unit) range.high

-- of so many steps and one step more, the second is nearer to the size; where both are as near, the even one is taken
abbrev pub next_is_nearer : Range → (step steps : ℕ) → Bool
next_is_nearer range step steps = below (steps % 2 == 1) ((2 * steps + 1) * step * range.unit) (range.middle * 2)

-- the steps, or one more; those that read back, and of two the nearer
abbrev pub choice : (here there nearer : Bool) → (steps : ℕ) → Option ℕ
choice true true nearer steps = Some (if nearer then steps + 1 else steps)
choice true false nearer steps = Some steps
choice false true nearer steps = Some (steps + 1)
choice false false nearer steps = None

-- of so many steps and one more, the best, if one of them reads back
abbrev pub best_of : Range → (step steps : ℕ) → Option ℕ
best_of range step steps =
    choice (reads_back range (steps * step)) (reads_back range ((steps + 1) * step)) (next_is_nearer range step steps) steps

-- the best decimal that is a number of such steps of units, if one reads back: the size lies between two of them
abbrev pub best : Range → (step : ℕ) → Option ℕ
best range step = best_of range step (range.middle / range.unit / step)

-- ---- the fewest digits

-- the decimal of these steps, if there is one, else the other
abbrev pub or_else : (step : ℕ) → Option ℕ → ℕ → ℕ
or_else step (Some steps) other = steps * step
or_else step None other = other

-- the best decimal with the fewest digits, in units, where up to so many digits may be left out
abbrev pub fewest : Range → ℕ → ℕ
fewest range zero = or_else 1 (best range 1) (range.middle / range.unit)
fewest range (suc more) = or_else (10 ^ suc more) (best range (10 ^ suc more)) (fewest range more)

-- the least place, from this one on, at which the size has at most 17 digits
unfoldable pub place_from : (least middle : ℕ) → (fuel place : ℕ) → ℕ
place_from least middle zero place = place
place_from least middle (suc fuel) place = if nat_lt middle (10 ^ 17 * unit_at least place) then place else place_from least middle fuel (place + 1)

-- of the decimals that read back, those with the fewest digits, but two where one does; of these the nearest
abbrev pub shortest : (least : ℕ) → Size → Decimal
shortest least size =
    let place = place_from least (quarter_at size.power * (size.significand * 4)) 700 0 in
    record { units = fewest (range_at least place size) 15; place = place }
