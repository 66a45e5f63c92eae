-- Hexadecimal digits in pairs.
use Rattle.std.proofs.Common.{◌≡◌, ℕ, suc, ◌+◌, ◌*◌, ◌/◌, ◌%◌, ◌<◌, false, if◌then◌else◌, List, [], ◌∷◌, Some, slice_index, refl, ap, ◌∙◌, arith}
use Rattle.std.proofs.lemmas.Bool.Decides.{nat_tests}
use Rattle.hex.specs.Hex.{IsBytes, encode_with, hex_digit_value, lower_digits, upper_digits}
use Rattle.hex.proofs.HexLemmas.{IsDigits, IsDigits-lower_digits, IsDigits-upper_digits}
use Rattle.jser_inputs.specs.declared.place.Place.{Place}
use Rattle.jser_inputs.specs.declared.place.Place.TheVariants as place
use Rattle.jser_inputs.specs.declared.spot.Spot.{Spot}
use Rattle.jser_inputs.specs.declared.spot.Move.TheVariants as move
use Rattle.jser_inputs.specs.Spaces.{is_space}
use Rattle.jser_inputs.specs.Places.{after_high, after_low, high_read, low_read, move_of, move_over_space, moved, spare_space}
use Rattle.jser_inputs.specs.Spelled.{follows, spelled}
use Rattle.uses_inputs.specs.Laws.{HexIsSpelled}

-- a digit is no white space
no_space : (c v : ℕ) → hex_digit_value c ≡ Some v → is_space c ≡ false
no_space c v is = grind (arith, nat_tests)

abbrev at : Place → ℕ → Spot
at place spare = record { place = place; spare = spare }

step_high : (s c v : ℕ) → hex_digit_value c ≡ Some v → move_of (at place.High s) c ≡ move.Goes (at (place.Low v) s)
step_high s c v is = ap (λ b. if b then move_over_space place.High s c else moved s (after_high c)) (no_space c v is) ∙ ap (λ o. moved s (high_read o)) is

step_low : (h s c v : ℕ) → hex_digit_value c ≡ Some v → move_of (at (place.Low h) s) c ≡ move.Gives (h * 16 + v) (at place.High (s + 1))
step_low h s c v is = ap (λ b. if b then move_over_space (place.Low h) s c else moved s (after_low h c)) (no_space c v is) ∙ ap (λ o. moved s (low_read h o)) is

spelled_pair : (s a b h l : ℕ) (rest : List ℕ) → hex_digit_value a ≡ Some h → hex_digit_value b ≡ Some l
    → spelled (at place.High s) (a ∷ b ∷ rest) ≡ (h * 16 + l) ∷ spelled (at place.High (s + 1)) rest
unfolding spelled
spelled_pair s a b h l rest ea eb =
    ap (λ m. follows m (λ next. spelled next (b ∷ rest))) (step_high s a h ea) ∙ ap (λ m. follows m (λ next. spelled next rest)) (step_low h s b l eb)

spelled_nothing : (s : ℕ) → spelled (at place.High s) [] ≡ []
unfolding spelled
spelled_nothing s = refl

spelled_encoded : (t : List ℕ) → IsDigits t → (s : ℕ) (bytes : List ℕ) → IsBytes bytes → spelled (at place.High s) (encode_with t bytes) ≡ bytes
unfolding encode_with
spelled_encoded t ds s [] fits = spelled_nothing s
spelled_encoded t ds s (b ∷ rest) fits =
    let small : b < 256 = fits 0 in
    let whole : b / 16 * 16 + b % 16 ≡ b = omega arith in
    spelled_pair s (slice_index t (b / 16)) (slice_index t (b % 16)) (b / 16) (b % 16) (encode_with t rest) (ds (b / 16) (omega arith)) (ds (b % 16) (omega arith))
    ∙ ap (λ v. v ∷ spelled (at place.High (s + 1)) (encode_with t rest)) whole ∙ ap (λ xs. b ∷ xs) (spelled_encoded t ds (s + 1) rest (λ k. fits (suc k)))

pub hex_is_spelled : HexIsSpelled
hex_is_spelled bytes fits =
    (spelled_encoded lower_digits IsDigits-lower_digits spare_space bytes fits, spelled_encoded upper_digits IsDigits-upper_digits spare_space bytes fits)
