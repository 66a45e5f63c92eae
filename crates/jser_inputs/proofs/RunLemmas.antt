-- Runs of whole pairs and groups.
use Rattle.std.proofs.Common.{◌≡◌, ℕ, ◌+◌, ◌-◌, ◌*◌, ◌≤◌, ◌==◌, ◌||◌, List, get_or, set, Some, Bool, true, false, refl, sym, ap, subst, ◌∙◌, arith, [], take, length, drop_of_length-le}
use Rattle.std.specs.Prelude.{is_some}
use Rattle.hex.specs.Hex.{hex_digit_value}
use Rattle.jser_inputs.specs.declared.spot.Spot.{Spot}
use Rattle.jser_inputs.specs.declared.spot.Move.TheVariants as move
use Rattle.jser_inputs.specs.declared.place.Place.{Place}
use Rattle.jser_inputs.specs.declared.place.Place.TheVariants as place
use Rattle.jser_inputs.specs.Spaces.{is_space}
use Rattle.jser_digits.specs.Joined.{ArePair}
use Rattle.jser_inputs.specs.Places.{high_read, low_read, move_of, moved}
use Rattle.jser_inputs.specs.Groups.{Turned, TurnsOn}
use Rattle.std.proofs.lemmas.List.{length-take-le}
use Rattle.jser_inputs.specs.Spelled.{Reads}
use Rattle.jser_digits.proofs.DigitLemmas.{neither, other}
use Rattle.jser_inputs.proofs.DigitLemmas.{moves}
use Rattle.jser_inputs.proofs.GroupLemmas.{turns_none, turns_pair}

-- where a run is that began there and has given so many bytes more
abbrev pub ran : Spot → Place → ℕ → Spot
ran from at count = record { place = at; spare = from.spare + count }

spot_is : (from : Spot) (at : Place) (n : ℕ) → from.place ≡ at → n ≡ 0 → from ≡ ran from at n
spot_is from at n is none = ap (λ p. record { place = p; spare = from.spare }) is ∙ ap (λ m. record { place = at; spare = m }) (omega (arith, none))

pub run_begins : (from : Spot) (at : Place) (buf : List ℕ) (count taken given : ℕ) → from.place ≡ at → TurnsOn from (ran from at (given - given)) buf buf count taken given taken given
run_begins from at buf count taken given is =
    subst (λ s. TurnsOn from s buf buf count taken given taken given) (spot_is from at (given - given) is (omega arith)) (turns_none from buf count taken given)

abbrev is_hex : ℕ → Bool
is_hex c = is_some (hex_digit_value c)

hex_no_space : (c v : ℕ) → hex_digit_value c ≡ Some v → is_space c ≡ false
hex_no_space c v e =
    let digit : is_hex c ≡ true = ap is_some e in
    neither (c == 0x20 || c == 0x09 || c == 0x0A) (c == 0x0D)
    (neither (c == 0x20 || c == 0x09) (c == 0x0A) (neither (c == 0x20) (c == 0x09) (other is_hex c 0x20 digit refl) (other is_hex c 0x09 digit refl)) (other is_hex c 0x0A digit refl))
    (other is_hex c 0x0D digit refl)

high_moves : (spare c v : ℕ) → hex_digit_value c ≡ Some v → move_of (record { place = place.High; spare = spare }) c ≡ move.Goes (record { place = place.Low v; spare = spare })
high_moves spare c v e = moves (record { place = place.High; spare = spare }) c place.High (hex_no_space c v e) refl ∙ ap (λ o. moved spare (high_read o)) e

low_moves : (high spare c v : ℕ) → hex_digit_value c ≡ Some v
    → move_of (record { place = place.Low high; spare = spare }) c ≡ move.Gives (high * 16 + v) (record { place = place.High; spare = spare + 1 })
low_moves high spare c v e = moves (record { place = place.Low high; spare = spare }) c (place.Low high) (hex_no_space c v e) refl ∙ ap (λ o. moved spare (low_read high o)) e

pub pair_step : (from : Spot) (old buf : List ℕ) (count from_taken from_given taken given bits : ℕ) → given ≤ taken → from_given ≤ given → taken + 2 ≤ count
    → ArePair (get_or buf taken 0) (get_or buf (taken + 1) 0) bits
    → TurnsOn from (ran from place.High (given - from_given)) old buf count from_taken from_given taken given
    → TurnsOn from (ran from place.High (given + 1 - from_given)) old (set buf given bits) count from_taken from_given (taken + 2) (given + 1)
pair_step from old buf count from_taken from_given taken given bits few more inside h t =
    let spare = from.spare + (given - from_given) in
    turns_pair from (ran from place.High (given - from_given)) (ran from place.High (given + 1 - from_given)) old buf count from_taken from_given taken given bits few t
    (record {
      inside = inside;
      between = record { place = place.Low h.high; spare = spare };
      goes = sym (high_moves spare (get_or buf taken 0) h.high h.is_high);
      gives =
          ap (λ n. move.Gives n (record { place = place.High; spare = from.spare + (given + 1 - from_given) })) h.is
          ∙ ap (λ n. move.Gives (h.high * 16 + h.low) (record { place = place.High; spare = n })) (omega (arith, more))
          ∙ sym (low_moves h.high spare (get_or buf (taken + 1) 0) h.low h.is_low);
    })

pub read_all : (start now : Spot) (old buf : List ℕ) (count taken given : ℕ) → count ≤ length old → count ≤ taken → Turned start now old buf count taken given
    → Reads start now (take count old) [] (take given buf) taken
read_all start now old buf count taken given within all t =
    subst (λ rest. Reads start now (take count old) rest (take given buf) taken) (drop_of_length-le (take count old) (omega (arith, length-take-le count old within, all))) t.reads
