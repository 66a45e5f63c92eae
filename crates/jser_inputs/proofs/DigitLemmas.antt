-- Four digits of base64 are three bytes.
use Rattle.std.proofs.Common.{◌≡◌, ℕ, ◌+◌, ◌*◌, ◌==◌, ◌||◌, if◌then◌else◌, Bool, true, false, Some, refl, sym, ap, ◌∙◌, arith}
use Rattle.std.specs.Prelude.{◌/◌, ◌%◌, is_some}
use Rattle.jser_inputs.specs.Groups.{Group}
use Rattle.jser_inputs.specs.declared.spot.Spot.{Spot}
use Rattle.jser_inputs.specs.declared.spot.Move.TheVariants as move
use Rattle.jser_digits.specs.declared.digit.Alphabet.{Alphabet}
use Rattle.jser_digits.specs.declared.digit.Alphabet.TheVariants as alphabet
use Rattle.jser_inputs.specs.declared.place.Place.{Place}
use Rattle.jser_inputs.specs.declared.place.Place.TheVariants as place
use Rattle.jser_inputs.specs.Spaces.{is_space}
use Rattle.jser_digits.specs.Digits.{value_in}
use Rattle.jser_digits.proofs.DigitLemmas.{neither, other}
use Rattle.jser_inputs.specs.Places.{move_of, move_over_space, moved, step_by_place, pads, first_read, second_read, third_read, fourth_read}
use Rattle.jser_inputs.specs.Groups.{IsGroup}

-- ---- a digit is no white space, and no `=`

abbrev is_digit : Alphabet → ℕ → Bool
is_digit letters c = is_some (value_in letters c)

no_space_by : (letters : Alphabet) (c : ℕ) → is_digit letters c ≡ true → is_digit letters 0x20 ≡ false → is_digit letters 0x09 ≡ false → is_digit letters 0x0A ≡ false
    → is_digit letters 0x0D ≡ false → is_space c ≡ false
no_space_by letters c digit blank tab feed back =
    let test : ℕ → Bool = is_digit letters in
    neither (c == 0x20 || c == 0x09 || c == 0x0A) (c == 0x0D)
    (neither (c == 0x20 || c == 0x09) (c == 0x0A) (neither (c == 0x20) (c == 0x09) (other test c 0x20 digit blank) (other test c 0x09 digit tab)) (other test c 0x0A digit feed))
    (other test c 0x0D digit back)

is_one : (letters : Alphabet) (c v : ℕ) → value_in letters c ≡ Some v → is_digit letters c ≡ true
is_one letters c v e = ap is_some e

no_space : (letters : Alphabet) (c v : ℕ) → value_in letters c ≡ Some v → is_space c ≡ false
no_space alphabet.Standard c v e = no_space_by alphabet.Standard c (is_one alphabet.Standard c v e) refl refl refl refl
no_space alphabet.UrlSafe c v e = no_space_by alphabet.UrlSafe c (is_one alphabet.UrlSafe c v e) refl refl refl refl
no_space alphabet.Either c v e = no_space_by alphabet.Either c (is_one alphabet.Either c v e) refl refl refl refl

no_padding : (letters : Alphabet) (c v : ℕ) → value_in letters c ≡ Some v → (c == 0x3D) ≡ false
no_padding alphabet.Standard c v e = other (is_digit alphabet.Standard) c 0x3D (is_one alphabet.Standard c v e) refl
no_padding alphabet.UrlSafe c v e = other (is_digit alphabet.UrlSafe) c 0x3D (is_one alphabet.UrlSafe c v e) refl
no_padding alphabet.Either c v e = other (is_digit alphabet.Either) c 0x3D (is_one alphabet.Either c v e) refl

-- ---- what each of four digits does

pub moves : (spot : Spot) (c : ℕ) (p : Place) → is_space c ≡ false → spot.place ≡ p → move_of spot c ≡ moved spot.spare (step_by_place p c)
moves spot c p e is =
    ap (λ b. if b then move_over_space spot.place spot.spare c else moved spot.spare (step_by_place spot.place c)) e
    ∙ ap (λ q. moved spot.spare (step_by_place q c)) is

first_moves : (spot : Spot) (letters : Alphabet) (c v : ℕ) → spot.place ≡ place.First letters → value_in letters c ≡ Some v
    → move_of spot c ≡ move.Goes (record { place = place.Second letters v; spare = spot.spare })
first_moves spot letters c v is e =
    moves spot c (place.First letters) (no_space letters c v e) is ∙ ap (λ o. moved spot.spare (first_read letters o)) e

second_moves : (letters : Alphabet) (bits spare c v : ℕ) → value_in letters c ≡ Some v
    → move_of (record { place = place.Second letters bits; spare = spare }) c ≡ move.Gives (bits * 4 + v / 16) (record { place = place.Third letters (v % 16); spare = spare + 1 })
second_moves letters bits spare c v e =
    moves (record { place = place.Second letters bits; spare = spare }) c (place.Second letters bits) (no_space letters c v e) refl
    ∙ ap (λ o. moved spare (second_read letters bits o)) e

third_moves : (letters : Alphabet) (bits spare c v : ℕ) → value_in letters c ≡ Some v
    → move_of (record { place = place.Third letters bits; spare = spare }) c ≡ move.Gives (bits * 16 + v / 4) (record { place = place.Fourth letters (v % 4); spare = spare + 1 })
third_moves letters bits spare c v e =
    moves (record { place = place.Third letters bits; spare = spare }) c (place.Third letters bits) (no_space letters c v e) refl
    ∙ ap (λ b. moved spare (if b then pads bits place.Padding else third_read letters bits (value_in letters c))) (no_padding letters c v e)
    ∙ ap (λ o. moved spare (third_read letters bits o)) e

fourth_moves : (letters : Alphabet) (bits spare c v : ℕ) → value_in letters c ≡ Some v
    → move_of (record { place = place.Fourth letters bits; spare = spare }) c ≡ move.Gives (bits * 64 + v) (record { place = place.First letters; spare = spare + 1 })
fourth_moves letters bits spare c v e =
    moves (record { place = place.Fourth letters bits; spare = spare }) c (place.Fourth letters bits) (no_space letters c v e) refl
    ∙ ap (λ b. moved spare (if b then pads bits place.Padded else fourth_read letters bits (value_in letters c))) (no_padding letters c v e)
    ∙ ap (λ o. moved spare (fourth_read letters bits o)) e

abbrev pub bytes_of_digits : Alphabet → (spare one two three four : ℕ) → Group
bytes_of_digits letters spare one two three four =
    record {
      first = one * 4 + two / 16;
      second = two % 16 * 16 + three / 4;
      third = three % 4 * 64 + four;
      next = record { place = place.First letters; spare = spare + 3 };
    }

pub four_digits : (spot : Spot) (letters : Alphabet) (a b c d one two three four : ℕ) → spot.place ≡ place.First letters → value_in letters a ≡ Some one → value_in letters b ≡ Some two
    → value_in letters c ≡ Some three → value_in letters d ≡ Some four → IsGroup spot a b c d (bytes_of_digits letters spot.spare one two three four)
four_digits spot letters a b c d one two three four is e1 e2 e3 e4 =
    record {
      second_at = record { place = place.Second letters one; spare = spot.spare };
      third_at = record { place = place.Third letters (two % 16); spare = spot.spare + 1 };
      fourth_at = record { place = place.Fourth letters (three % 4); spare = spot.spare + 1 + 1 };
      goes = sym (first_moves spot letters a one is e1);
      first = sym (second_moves letters one spot.spare b two e2);
      second = sym (third_moves letters (two % 16) (spot.spare + 1) c three e3);
      third =
          ap (λ n. move.Gives (three % 4 * 64 + four) (record { place = place.First letters; spare = n })) (omega arith)
          ∙ sym (fourth_moves letters (three % 4) (spot.spare + 1 + 1) d four e4);
      fits = tt;
      few = omega arith;
    }
