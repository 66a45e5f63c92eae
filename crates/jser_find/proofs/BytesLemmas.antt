-- What a text spells are bytes.
use Rattle.std.proofs.Common.{◌≡◌, ℕ, ◌<◌, Bool, true, false, ◌&&◌, ◌||◌, ◌==◌, nat_lt, if◌then◌else◌, IfSome, IsTrue, List, [], ◌∷◌, refl, sym, subst, arith, lt-ltb, Option, Some, None}
use Rattle.std.specs.List.{list_all}
use Rattle.jser_find.specs.declared.spot.Digit.{Digit}
use Rattle.jser_find.specs.declared.spot.Digit.TheVariants as digit
use Rattle.jser_find.specs.declared.spot.Last.{Last}
use Rattle.jser_find.specs.declared.spot.Last.TheVariants as last
use Rattle.jser_find.specs.declared.spot.Spot.{Spot}
use Rattle.jser_find.specs.declared.spot.Step.{Step}
use Rattle.jser_find.specs.declared.spot.Step.TheVariants as step
use Rattle.hex.specs.Hex.{hex_digit_value}
use Rattle.jser_digits.specs.Digits.{either_value}
use Rattle.jser_digits.proofs.DigitLemmas.{either_small, hex_small}
use Rattle.jser_find.specs.Spelled.{follows, spelled}
use Rattle.jser_find.specs.Spots.{Fits, FitsStep, digit_step, digit_value, open_step, radix, step_behind, step_of, step_with, value_step}
use Rattle.jser_grammar.specs.Parts.{IsBytes}

-- ---- digits are small

small_if : (bound : ℕ) (o : Option ℕ) → ((v : ℕ) → o ≡ Some v → v < bound) → IfSome o (λ v. v < bound)
small_if bound None is = tt
small_if bound (Some v) is = is v refl

hexadecimal_small : (c : ℕ) → IfSome (hex_digit_value c) (λ v. v < 16)
hexadecimal_small c = small_if 16 (hex_digit_value c) (hex_small c)

base64_small : (c : ℕ) → IfSome (either_value c) (λ v. v < 64)
base64_small c = small_if 64 (either_value c) (either_small c)

-- ---- a character completes a byte

pub value_small : (next : Digit) (c : ℕ) → IfSome (digit_value next c) (λ value. value < radix next)
value_small digit.High c = hexadecimal_small c
value_small (digit.Low bits) c = hexadecimal_small c
value_small digit.First c = base64_small c
value_small (digit.Second bits) c = base64_small c
value_small (digit.Third bits) c = base64_small c
value_small (digit.Fourth bits) c = base64_small c

value_fits : (next : Digit) (value : ℕ) → Fits next → value < radix next → FitsStep (value_step next value)
value_fits digit.High value fits small = small
value_fits (digit.Low bits) value fits small = (tt, omega arith)
value_fits digit.First value fits small = small
value_fits (digit.Second bits) value fits small = (omega arith, omega arith)
value_fits (digit.Third bits) value fits small = (omega arith, omega arith)
value_fits (digit.Fourth bits) value fits small = (tt, omega arith)

step_with_fits : (next : Digit) (value : Option ℕ) → Fits next → IfSome value (λ v. v < radix next) → FitsStep (step_with next value)
step_with_fits next None fits small = tt
step_with_fits next (Some value) fits small = value_fits next value fits small

digit_fits : (next : Digit) (c : ℕ) → Fits next → FitsStep (digit_step next c)
digit_fits next c fits = step_with_fits next (digit_value next c) fits (value_small next c)

fits_if : (test : Bool) (a b : Step) → FitsStep a → FitsStep b → FitsStep (if test then a else b)
fits_if true a b x y = x
fits_if false a b x y = y

open_fits : (next : Digit) (c : ℕ) → Fits next → FitsStep (open_step next c)
open_fits next c fits = fits_if (c == 0x0A || c == 0x0D) _ _ fits (fits_if (c == 0x5C) _ _ fits (digit_fits next c fits))

step_fits : (spot : Spot) (c : ℕ) → Fits spot.next → FitsStep (step_of spot c)
step_fits spot c fits = by spot.last
  where
    by : (before : Last) → FitsStep (step_behind before spot.next c)
    by last.Digit = open_fits spot.next c fits
    by last.LineEnd = fits_if (c == 0x20 || c == 0x09) _ _ fits (open_fits spot.next c fits)
    by last.Backslash = fits_if (c == 0x6E || c == 0x72) _ _ fits (fits_if (c == 0x2F) _ step.Ends (digit_fits spot.next c fits) tt)

-- ---- so they are bytes

byte_first : (byte : ℕ) (rest : List ℕ) → byte < 0x100 → IsBytes rest → IsBytes (byte ∷ rest)
byte_first byte rest small are = subst (λ b. IsTrue (b && list_all (λ b. nat_lt b 0x100) rest)) (sym (lt-ltb byte 0x100 small)) are

bytes_follow : (result : Step) (rest : Spot → List ℕ) → FitsStep result → ((spot : Spot) → Fits spot.next → IsBytes (rest spot)) → IsBytes (follows result rest)
bytes_follow (step.Goes spot) rest fits are = are spot fits
bytes_follow (step.Gives byte spot) rest fits are = byte_first byte (rest spot) fits.1 (are spot fits.0)
bytes_follow step.Ends rest fits are = refl

pub spells_bytes : (text : List ℕ) (spot : Spot) → Fits spot.next → IsBytes (spelled spot text)
unfolding spelled
spells_bytes [] spot fits = refl
spells_bytes (c ∷ text) spot fits = bytes_follow (step_of spot c) (λ next. spelled next text) (step_fits spot c fits) (λ next fit. spells_bytes text next fit)
