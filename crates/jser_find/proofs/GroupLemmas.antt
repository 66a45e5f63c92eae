-- A whole group of base64 in a text.
use Rattle.std.proofs.Common.{◌≡◌, ℕ, ◌+◌, ◌*◌, ◌<◌, ◌≤◌, ◌==◌, Bool, true, false, if◌then◌else◌, List, length, get_or, Some, refl, sym, ap, subst, ◌∙◌, arith}
use Rattle.std.specs.Prelude.{◌/◌, ◌%◌, is_some}
use Rattle.jser_digits.specs.declared.digit.Alphabet.TheVariants as alphabet
use Rattle.jser_digits.specs.Digits.{either_value}
use Rattle.jser_digits.specs.Joined.{AreGroup, ArePair}
use Rattle.jser_digits.proofs.DigitLemmas.{neither, other}
use Rattle.jser_find.specs.declared.spot.Digit.{Digit}
use Rattle.jser_find.specs.declared.spot.Digit.TheVariants as digit
use Rattle.jser_find.specs.declared.spot.Last.TheVariants as last
use Rattle.jser_find.specs.declared.spot.Step.TheVariants as step
use Rattle.jser_find.specs.declared.spelled.Reading.{Reading}
use Rattle.jser_find.specs.Spots.{before, behind, digit_step, digit_value, step_of, step_with, value_step}
use Rattle.jser_find.specs.Spelled.{Gives, GivesGroup, GivesNext, IsIn}
use Rattle.jser_find.proofs.SpelledLemmas.{begun, gives, goes_on}

-- ---- a digit is no line end and no `\`

abbrev is_digit : Digit → ℕ → Bool
is_digit next c = is_some (digit_value next c)

-- so it is what its value makes of it
goes_by : (next : Digit) (c v : ℕ) → digit_value next c ≡ Some v → is_digit next 0x0A ≡ false → is_digit next 0x0D ≡ false → is_digit next 0x5C ≡ false
    → step_of (before next) c ≡ value_step next v
goes_by next c v e feed back slash =
    let digit : is_digit next c ≡ true = ap is_some e in
    ap (λ b. if b then step.Goes (behind last.LineEnd next) else (if c == 0x5C then step.Goes (behind last.Backslash next) else digit_step next c))
    (neither (c == 0x0A) (c == 0x0D) (other (is_digit next) c 0x0A digit feed) (other (is_digit next) c 0x0D digit back))
    ∙ ap (λ b. if b then step.Goes (behind last.Backslash next) else digit_step next c) (other (is_digit next) c 0x5C digit slash) ∙ ap (step_with next) e

-- ---- two hexadecimal digits

pub gives_pair : (text : List ℕ) (from : Reading) (bits : ℕ) → from.at + 2 ≤ length text → from.spot ≡ before digit.High → IsIn text from
    → ArePair (get_or text from.at 0) (get_or text (from.at + 1) 0) bits → GivesNext text from (Some (record { byte = bits; then = record { at = from.at + 2; spot = from.spot } }))
gives_pair text from bits inside is in_text h =
    let goes : step.Goes (before (digit.Low h.high)) ≡ step_of from.spot (get_or text from.at 0) =
    sym (ap (λ s. step_of s (get_or text from.at 0)) is ∙ goes_by digit.High (get_or text from.at 0) h.high h.is_high refl refl refl) in
    let there : from.at + 1 + 1 ≡ from.at + 2 = omega arith in
    subst (λ b. Gives text from b (record { at = from.at + 2; spot = from.spot })) (sym h.is)
    (subst (λ s. Gives text from (h.high * 16 + h.low) (record { at = from.at + 2; spot = s })) (sym is)
    (subst (λ n. Gives text from (h.high * 16 + h.low) (record { at = n; spot = before digit.High })) there
    (gives text from (from.at + 1) (before (digit.Low h.high)) (before digit.High) (h.high * 16 + h.low) (omega (arith, inside))
    (sym (goes_by (digit.Low h.high) (get_or text (from.at + 1) 0) h.low h.is_low refl refl refl)) tt
    (goes_on text from from.at from.spot (before (digit.Low h.high)) (omega (arith, inside)) goes h.small_high (begun text from in_text)))))

-- ---- four of them

-- where a text is read on behind a digit
reading : (at : ℕ) → Digit → Reading
reading at next = record { at = at; spot = before next }

first_of : (text : List ℕ) (from : Reading) (one two : ℕ) → from.at + 4 ≤ length text → from.spot ≡ before digit.First → IsIn text from
    → either_value (get_or text from.at 0) ≡ Some one → either_value (get_or text (from.at + 1) 0) ≡ Some two → one < 64 → two < 64
    → Gives text from (one * 4 + two / 16) (record { at = from.at + 2; spot = before (digit.Third (two % 16)) })
first_of text from one two inside is in_text e f small_one small_two =
    let goes : step.Goes (before (digit.Second one)) ≡ step_of from.spot (get_or text from.at 0) =
    sym (ap (λ s. step_of s (get_or text from.at 0)) is ∙ goes_by digit.First (get_or text from.at 0) one e refl refl refl) in
    let there : from.at + 1 + 1 ≡ from.at + 2 = omega arith in
    let third : two % 16 < 16 = omega arith in
    subst (λ n. Gives text from (one * 4 + two / 16) (record { at = n; spot = before (digit.Third (two % 16)) })) there
    (gives text from (from.at + 1) (before (digit.Second one)) (before (digit.Third (two % 16))) (one * 4 + two / 16) (omega (arith, inside))
    (sym (goes_by (digit.Second one) (get_or text (from.at + 1) 0) two f refl refl refl)) third
    (goes_on text from from.at from.spot (before (digit.Second one)) (omega (arith, inside)) goes small_one (begun text from in_text)))

second_of : (text : List ℕ) (at bits three : ℕ) → at + 2 ≤ length text → bits < 16 → either_value (get_or text at 0) ≡ Some three → three < 64
    → Gives text (record { at = at; spot = before (digit.Third bits) }) (bits * 16 + three / 4) (record { at = at + 1; spot = before (digit.Fourth (three % 4)) })
second_of text at bits three inside fits e small =
    let fourth : three % 4 < 4 = omega arith in
    gives text (record { at = at; spot = before (digit.Third bits) }) at (before (digit.Third bits)) (before (digit.Fourth (three % 4))) (bits * 16 + three / 4) (omega (arith, inside))
    (sym (goes_by (digit.Third bits) (get_or text at 0) three e refl refl refl)) fourth (begun text (record { at = at; spot = before (digit.Third bits) }) (record { inside = omega (arith, inside); fits = fits }))

third_of : (text : List ℕ) (at bits four : ℕ) → at + 1 ≤ length text → bits < 4 → either_value (get_or text at 0) ≡ Some four
    → Gives text (record { at = at; spot = before (digit.Fourth bits) }) (bits * 64 + four) (record { at = at + 1; spot = before digit.First })
third_of text at bits four inside fits e =
    gives text (record { at = at; spot = before (digit.Fourth bits) }) at (before (digit.Fourth bits)) (before digit.First) (bits * 64 + four) (omega (arith, inside))
    (sym (goes_by (digit.Fourth bits) (get_or text at 0) four e refl refl refl)) tt (begun text (record { at = at; spot = before (digit.Fourth bits) }) (record { inside = omega (arith, inside); fits = fits }))

pub gives_group : (text : List ℕ) (from : Reading) (bits : ℕ) → from.at + 4 ≤ length text → from.spot ≡ before digit.First → IsIn text from
    → AreGroup alphabet.Either (get_or text from.at 0) (get_or text (from.at + 1) 0) (get_or text (from.at + 2) 0) (get_or text (from.at + 3) 0) bits
    → GivesGroup text from (record { first = bits / 65536; second = bits / 256 % 256; third = bits % 256; then = record { at = from.at + 4; spot = from.spot } })
gives_group text from bits inside is in_text h =
    let small_two = h.small_two in
    let small_three = h.small_three in
    let fits_third : h.two % 16 < 16 = omega arith in
    let fits_fourth : h.three % 4 < 4 = omega arith in
    let at_3 : from.at + 2 + 1 ≡ from.at + 3 = omega arith in
    let at_4 : from.at + 3 + 1 ≡ from.at + 4 = omega arith in
    let third_at : Reading = record { at = from.at + 3; spot = before (digit.Fourth (h.three % 4)) } in
    let second_at : Reading = record { at = from.at + 2; spot = before (digit.Third (h.two % 16)) } in
    let behind_all : Reading = record { at = from.at + 4; spot = from.spot } in
    record {
      second_from = second_at;
      third_from = third_at;
      first = subst (λ b. Gives text from b second_at) (omega (arith, h.is, h.small_one, small_two, small_three, h.small_four))
          (first_of text from h.one h.two inside is in_text h.is_one h.is_two h.small_one small_two);
      second = subst (λ b. Gives text second_at b third_at) (omega (arith, h.is, h.small_one, small_two, small_three, h.small_four))
          (subst (λ n. Gives text second_at (h.two % 16 * 16 + h.three / 4) (record { at = n; spot = before (digit.Fourth (h.three % 4)) })) at_3
          (second_of text (from.at + 2) (h.two % 16) h.three (omega (arith, inside)) fits_third h.is_three small_three));
      third = subst (λ b. Gives text third_at b behind_all) (omega (arith, h.is, h.small_one, small_two, small_three, h.small_four))
          (subst (λ s. Gives text third_at (h.three % 4 * 64 + h.four) (record { at = from.at + 4; spot = s })) (sym is)
          (subst (λ n. Gives text third_at (h.three % 4 * 64 + h.four) (record { at = n; spot = before digit.First })) at_4
          (third_of text (from.at + 3) (h.three % 4) h.four (omega (arith, inside)) fits_fourth h.is_four)));
    }
