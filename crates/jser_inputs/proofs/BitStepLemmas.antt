-- A whole group from its bits.
use Rattle.std.proofs.Common.{◌≡◌, ℕ, ◌+◌, ◌-◌, ◌≤◌, List, get_or, set, refl, sym, ap, subst, ◌∙◌, arith}
use Rattle.std.specs.Prelude.{◌/◌, ◌%◌}
use Rattle.jser_inputs.specs.declared.spot.Spot.{Spot}
use Rattle.jser_digits.specs.declared.digit.Alphabet.{Alphabet}
use Rattle.jser_inputs.specs.declared.place.Place.TheVariants as place
use Rattle.jser_digits.specs.Joined.{AreGroup}
use Rattle.jser_inputs.specs.Groups.{TurnsOn}
use Rattle.jser_inputs.proofs.DigitLemmas.{bytes_of_digits, four_digits}
use Rattle.jser_inputs.proofs.GroupLemmas.{all_set, turns_group}
use Rattle.jser_inputs.proofs.RunLemmas.{ran}

three_set : (buf : List ℕ) (given a b c x y z : ℕ) → a ≡ x → b ≡ y → c ≡ z → set (set (set buf given a) (given + 1) b) (given + 2) c ≡ set (set (set buf given x) (given + 1) y) (given + 2) z
three_set buf given a b c x y z p q r =
    ap (λ n. set (set (set buf given n) (given + 1) b) (given + 2) c) p ∙ ap (λ n. set (set (set buf given x) (given + 1) n) (given + 2) c) q
    ∙ ap (λ n. set (set (set buf given x) (given + 1) y) (given + 2) n) r

pub bits_step : (letters : Alphabet) (from : Spot) (old buf : List ℕ) (count from_taken from_given taken given bits : ℕ) → given ≤ taken → from_given ≤ given → taken + 4 ≤ count
    → AreGroup letters (get_or buf taken 0) (get_or buf (taken + 1) 0) (get_or buf (taken + 2) 0) (get_or buf (taken + 3) 0) bits
    → TurnsOn from (ran from (place.First letters) (given - from_given)) old buf count from_taken from_given taken given
    → TurnsOn from (ran from (place.First letters) (given + 3 - from_given)) old
    (set (set (set buf given (bits / 65536)) (given + 1) (bits / 256 % 256)) (given + 2) (bits % 256)) count from_taken from_given (taken + 4) (given + 3)
bits_step letters from old buf count from_taken from_given taken given bits few more inside h t =
    let now = ran from (place.First letters) (given - from_given) in
    let group = bytes_of_digits letters now.spare h.one h.two h.three h.four in
    let done = turns_group from now group old buf count from_taken from_given taken given few t
    (record {
      inside = inside;
      is = four_digits now letters (get_or buf taken 0) (get_or buf (taken + 1) 0) (get_or buf (taken + 2) 0) (get_or buf (taken + 3) 0) h.one h.two h.three h.four refl
          h.is_one h.is_two h.is_three h.is_four;
    }) in
    let counted = subst (λ (s : Spot). TurnsOn from s old (all_set buf given group) count from_taken from_given (taken + 4) (given + 3))
    (ap (λ n. record { place = place.First letters; spare = n }) (omega (arith, more))) done in
    subst (λ xs. TurnsOn from (ran from (place.First letters) (given + 3 - from_given)) old xs count from_taken from_given (taken + 4) (given + 3))
    (sym (three_set buf given (bits / 65536) (bits / 256 % 256) (bits % 256) group.first group.second group.third
    (omega (arith, h.is, h.small_one, h.small_two, h.small_three, h.small_four)) (omega (arith, h.is, h.small_one, h.small_two, h.small_three, h.small_four))
    (omega (arith, h.is, h.small_one, h.small_two, h.small_three, h.small_four)))) counted
