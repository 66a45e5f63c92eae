-- A float as Java prints it (`Double.toString` and `Float.toString`, since Java 19).
use Rattle.std.specs.Prelude.{ℕ, ◌+◌, ◌-◌, ◌==◌, nat_le, nat_lt, Bool, ◌&&◌, if◌then◌else◌, List, [], ◌∷◌, ◌++◌, length, take, drop, replicate, codes}
use Rattle.std.specs.Fmt.{decimal}
use Rattle.jser_decimal.specs.declared.float.Float.{Float}
use Rattle.jser_decimal.specs.declared.float.Magnitude.{Magnitude}
use Rattle.jser_decimal.specs.declared.float.Magnitude.TheVariants as magnitude
use Rattle.jser_decimal.specs.declared.shortest.Decimal.{Decimal}

-- a digit before others, but no zero at the end
abbrev pub put_before : ℕ → List ℕ → List ℕ
put_before digit [] = if digit == 0x30 then [] else digit ∷ []
put_before digit (next ∷ digits) = digit ∷ next ∷ digits

-- digits without the zeros at their end
abbrev pub trimmed : List ℕ → List ℕ
trimmed [] = []
trimmed (digit ∷ digits) = put_before digit (trimmed digits)

-- such digits, or a zero
abbrev pub or_zero : List ℕ → List ℕ
or_zero [] = 0x30 ∷ []
or_zero (digit ∷ digits) = digit ∷ digits

-- digits with a point behind so many of them
abbrev pub with_point : ℕ → List ℕ → List ℕ
with_point whole digits = take whole digits ++ 0x2E ∷ or_zero (trimmed (drop whole digits))

-- an exponent, 345 more than it is
abbrev pub exponent_text : ℕ → List ℕ
exponent_text point = if nat_lt point 345 then 0x2D ∷ decimal (345 - point) else decimal (point - 345)

-- digits of a number that is less than 1, with the zeros before them
abbrev pub below_one : (point : ℕ) → List ℕ → List ℕ
below_one point digits = codes "0." ++ replicate (344 - point) 0x30 ++ trimmed digits

-- digits with a point behind the first, and an exponent
abbrev pub scientific : (point : ℕ) → List ℕ → List ℕ
scientific point digits = with_point 1 digits ++ 0x45 ∷ exponent_text point

-- Digits whose point is so many places behind their front, and 344 more: where the number is at least 10^-3 and less than
-- 10^7 it is written there.
abbrev pub laid_out : (point : ℕ) → List ℕ → List ℕ
laid_out point digits =
    if nat_lt 344 point && nat_le point 351 then with_point (point - 344) digits
    else (if nat_lt 341 point && nat_le point 344 then below_one point digits
    else scientific point digits)

abbrev pub decimal_text : Decimal → List ℕ
decimal_text number = let digits = decimal number.units in laid_out (length digits + number.place) digits

abbrev pub magnitude_text : Magnitude → List ℕ
magnitude_text magnitude.Zero = codes "0.0"
magnitude_text (magnitude.Finite number) = decimal_text number
magnitude_text magnitude.Infinite = codes "Infinity"
magnitude_text magnitude.NotANumber = codes "NaN"

abbrev pub minus_if : Bool → List ℕ
minus_if is_negative = if is_negative then 0x2D ∷ [] else []

-- the sign, which no NaN shows
abbrev pub sign_of : (is_negative : Bool) → Magnitude → List ℕ
sign_of is_negative magnitude.Zero = minus_if is_negative
sign_of is_negative (magnitude.Finite number) = minus_if is_negative
sign_of is_negative magnitude.Infinite = minus_if is_negative
sign_of is_negative magnitude.NotANumber = []

abbrev pub float_text : Float → List ℕ
float_text float = sign_of float.is_negative float.magnitude ++ magnitude_text float.magnitude
