-- Digits are small, and no other characters.
use Rattle.std.proofs.Common.{◌≡◌, ℕ, ◌<◌, ◌==◌, ◌||◌, Bool, true, false, Some, refl, sym, ap, ◌∙◌, arith}
use Rattle.std.proofs.lemmas.Bool.{eqb-true}
use Rattle.std.proofs.lemmas.Bool.Decides.{nat_tests}
use Rattle.hex.specs.Hex.{hex_digit_value}
use Rattle.jser_digits.specs.declared.digit.Alphabet.{Alphabet}
use Rattle.jser_digits.specs.declared.digit.Alphabet.TheVariants as alphabet
use Rattle.jser_digits.specs.Digits.{value_in, either_value, standard_value, url_safe_value}

standard_small : (c v : ℕ) → standard_value c ≡ Some v → v < 64
standard_small c v e = grind (arith, nat_tests, e)

url_small : (c v : ℕ) → url_safe_value c ≡ Some v → v < 64
url_small c v e = grind (arith, nat_tests, e)

pub either_small : (c v : ℕ) → either_value c ≡ Some v → v < 64
either_small c v e = grind (arith, nat_tests, e)

pub small : (letters : Alphabet) (c v : ℕ) → value_in letters c ≡ Some v → v < 64
small alphabet.Standard c v e = standard_small c v e
small alphabet.UrlSafe c v e = url_small c v e
small alphabet.Either c v e = either_small c v e

pub hex_small : (c v : ℕ) → hex_digit_value c ≡ Some v → v < 16
hex_small c v e = grind (arith, nat_tests, e)

other_by : (test : ℕ → Bool) (c k : ℕ) (t : Bool) → (c == k) ≡ t → test c ≡ true → test k ≡ false → t ≡ false
other_by test c k true is e f = absurd (cc (sym e ∙ ap test (eqb-true c k is) ∙ f))
other_by test c k false is e f = refl

-- what passes a test is no character that does not
pub other : (test : ℕ → Bool) (c k : ℕ) → test c ≡ true → test k ≡ false → (c == k) ≡ false
other test c k e f = other_by test c k (c == k) refl e f

pub neither : (a b : Bool) → a ≡ false → b ≡ false → (a || b) ≡ false
neither true b e f = absurd (cc e)
neither false b e f = f
