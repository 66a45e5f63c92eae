-- What the bits of a float mean (IEEE 754, section 3.4): a sign, an exponent and a fraction.
use Rattle.std.specs.Prelude.{ℕ, ◌+◌, ◌-◌, ◌*◌, ◌/◌, ◌%◌, ◌^◌, ◌==◌, nat_le, nat_lt, false, ◌&&◌, if◌then◌else◌}
use Rattle.jser_decimal.specs.declared.float.Float.{Float}
use Rattle.jser_decimal.specs.declared.float.Magnitude.{Magnitude}
use Rattle.jser_decimal.specs.declared.float.Magnitude.TheVariants as magnitude
use Rattle.jser_decimal.specs.declared.shortest.Size.{Size}
use Rattle.jser_decimal.specs.Shortest.{shortest}

-- the size that an exponent and a fraction spell, where a fraction is less than `one`
abbrev pub size_with : (one exponent fraction : ℕ) → Size
size_with one exponent fraction =
    if exponent == 0 then record { significand = fraction; power = 0; at_edge = false }
    else record { significand = one + fraction; power = exponent - 1; at_edge = fraction == 0 && nat_lt 1 exponent }

-- bits without the sign, where those of infinity are `infinite`
abbrev pub magnitude_of : (one least infinite bits : ℕ) → Magnitude
magnitude_of one least infinite bits =
    if bits == 0 then magnitude.Zero
    else (if nat_lt bits infinite then magnitude.Finite (shortest least (size_with one (bits / one) (bits % one)))
    else (if nat_lt infinite bits then magnitude.NotANumber else magnitude.Infinite))

-- a double has 52 bits of a fraction and 11 of an exponent, and is a multiple of 2^-1074
abbrev pub double_of : ℕ → Float
double_of bits = record { is_negative = nat_le (2 ^ 63) bits; magnitude = magnitude_of (2 ^ 52) 1074 (2047 * 2 ^ 52) (bits % 2 ^ 63) }

-- a float has 23 and 8, and is a multiple of 2^-149
abbrev pub single_of : ℕ → Float
single_of bits = record { is_negative = nat_le (2 ^ 31) bits; magnitude = magnitude_of (2 ^ 23) 149 (255 * 2 ^ 23) (bits % 2 ^ 31) }
