-- Digits of base64 in groups of four.
use Rattle.std.proofs.Common.{◌≡◌, ℕ, suc, ◌+◌, ◌*◌, ◌/◌, ◌%◌, ◌<◌, ◌==◌, ◌&&◌, not, Bool, true, false, if◌then◌else◌, List, [], ◌∷◌, ◌++◌, length, replicate, Option, Some, None, slice_index, refl, ap, subst, ◌∙◌, arith, inl, inr}
use Rattle.std.specs.Prelude.{◌⊎◌}
use Rattle.std.proofs.lemmas.Bool.{eqb-true}
use Rattle.base64.specs.GeneralPurpose.{IsBytes, engine_symbols}
use Rattle.base64.specs.Engines.{standard, url_safe}
use Rattle.base64.specs.Rfc4648.{encode_symbols, padding_len}
use Rattle.base64.proofs.Tables.{all_below_at}
use Rattle.jser_digits.specs.declared.digit.Alphabet.{Alphabet}
use Rattle.jser_digits.specs.declared.digit.Alphabet.TheVariants as alphabet
use Rattle.jser_inputs.specs.declared.place.Place.{Place}
use Rattle.jser_inputs.specs.declared.place.Place.TheVariants as place
use Rattle.jser_inputs.specs.declared.spot.Spot.{Spot}
use Rattle.jser_inputs.specs.declared.spot.Move.TheVariants as move
use Rattle.jser_inputs.specs.Spaces.{is_space}
use Rattle.jser_digits.specs.Digits.{value_in}
use Rattle.jser_inputs.specs.Places.{first_read, fourth_read, move_of, move_over_space, moved, pads, second_read, spare_space, step_by_place, third_read}
use Rattle.jser_inputs.specs.Spelled.{follows, spelled}
use Rattle.uses_inputs.specs.Laws.{Base64IsSpelled}

-- ---- the symbols of an alphabet are read as their places in it

abbrev good : ℕ → Option ℕ → Bool
good v None = false
good v (Some value) = value == v

abbrev is_read : Alphabet → List ℕ → ℕ → Bool
is_read a t v = not (is_space (slice_index t v)) && (not (slice_index t v == 0x3D) && good v (value_in a (slice_index t v)))

record Read (a : Alphabet) (c v : ℕ) : Type 0 where
  is : value_in a c ≡ Some v
  no_space : is_space c ≡ false
  no_pad : (c == 0x3D) ≡ false

both : (x y : Bool) → (x && y) ≡ true → (x ≡ true) × (y ≡ true)
both true y e = (refl, e)
both false y e = cc e

is_not : (x : Bool) → not x ≡ true → x ≡ false
is_not true e = cc e
is_not false e = refl

from_good : (v : ℕ) (found : Option ℕ) → good v found ≡ true → found ≡ Some v
from_good v None e = cc e
from_good v (Some value) e = ap (λ n. Some n) (eqb-true value v e)

from_test : (a : Alphabet) (t : List ℕ) (v : ℕ) → is_read a t v ≡ true → Read a (slice_index t v) v
from_test a t v e =
    let one = both (not (is_space (slice_index t v))) _ e in
    let two = both (not (slice_index t v == 0x3D)) _ one.1 in
    record {
      is = from_good v (value_in a (slice_index t v)) two.1;
      no_space = is_not (is_space (slice_index t v)) one.0;
      no_pad = is_not (slice_index t v == 0x3D) two.0;
    }

abbrev AllRead : Alphabet → List ℕ → Type 0
AllRead a t = (v : ℕ) → v < 64 → Read a (slice_index t v) v

all_standard : AllRead alphabet.Standard (engine_symbols standard)
all_standard v small = from_test alphabet.Standard (engine_symbols standard) v (all_below_at (is_read alphabet.Standard (engine_symbols standard)) 64 v refl small)

all_url_safe : AllRead alphabet.UrlSafe (engine_symbols url_safe)
all_url_safe v small = from_test alphabet.UrlSafe (engine_symbols url_safe) v (all_below_at (is_read alphabet.UrlSafe (engine_symbols url_safe)) 64 v refl small)

-- ---- what they do at the places of a group

abbrev at : Place → ℕ → Spot
at place spare = record { place = place; spare = spare }

-- a character that is no white space
step_at : (place : Place) (s c : ℕ) → is_space c ≡ false → move_of (at place s) c ≡ moved s (step_by_place place c)
step_at place s c none = ap (λ b. if b then move_over_space place s c else moved s (step_by_place place c)) none

step_first : (a : Alphabet) (s c v : ℕ) → Read a c v → move_of (at (place.First a) s) c ≡ move.Goes (at (place.Second a v) s)
step_first a s c v r = step_at (place.First a) s c r.no_space ∙ ap (λ o. moved s (first_read a o)) r.is

step_second : (a : Alphabet) (bits s c v : ℕ) → Read a c v → move_of (at (place.Second a bits) s) c ≡ move.Gives (bits * 4 + v / 16) (at (place.Third a (v % 16)) (s + 1))
step_second a bits s c v r = step_at (place.Second a bits) s c r.no_space ∙ ap (λ o. moved s (second_read a bits o)) r.is

step_third : (a : Alphabet) (bits s c v : ℕ) → Read a c v → move_of (at (place.Third a bits) s) c ≡ move.Gives (bits * 16 + v / 4) (at (place.Fourth a (v % 4)) (s + 1))
step_third a bits s c v r =
    step_at (place.Third a bits) s c r.no_space
    ∙ ap (λ b. moved s (if b then pads bits place.Padding else third_read a bits (value_in a c))) r.no_pad ∙ ap (λ o. moved s (third_read a bits o)) r.is

step_fourth : (a : Alphabet) (bits s c v : ℕ) → Read a c v → move_of (at (place.Fourth a bits) s) c ≡ move.Gives (bits * 64 + v) (at (place.First a) (s + 1))
step_fourth a bits s c v r =
    step_at (place.Fourth a bits) s c r.no_space
    ∙ ap (λ b. moved s (if b then pads bits place.Padded else fourth_read a bits (value_in a c))) r.no_pad ∙ ap (λ o. moved s (fourth_read a bits o)) r.is

-- ---- a group, and its beginnings

two_read : (a : Alphabet) (t : List ℕ) → AllRead a t → (s v w : ℕ) (rest : List ℕ) → v < 64 → w < 64
    → spelled (at (place.First a) s) (slice_index t v ∷ slice_index t w ∷ rest) ≡ (v * 4 + w / 16) ∷ spelled (at (place.Third a (w % 16)) (s + 1)) rest
unfolding spelled
two_read a t all s v w rest sv sw =
    ap (λ m. follows m (λ next. spelled next (slice_index t w ∷ rest))) (step_first a s (slice_index t v) v (all v sv))
    ∙ ap (λ m. follows m (λ next. spelled next rest)) (step_second a v s (slice_index t w) w (all w sw))

three_read : (a : Alphabet) (t : List ℕ) → AllRead a t → (s v w x : ℕ) (rest : List ℕ) → v < 64 → w < 64 → x < 64
    → spelled (at (place.First a) s) (slice_index t v ∷ slice_index t w ∷ slice_index t x ∷ rest)
    ≡ (v * 4 + w / 16) ∷ (w % 16 * 16 + x / 4) ∷ spelled (at (place.Fourth a (x % 4)) (s + 1 + 1)) rest
unfolding spelled
three_read a t all s v w x rest sv sw sx =
    two_read a t all s v w (slice_index t x ∷ rest) sv sw
    ∙ ap (λ m. (v * 4 + w / 16) ∷ follows m (λ next. spelled next rest)) (step_third a (w % 16) (s + 1) (slice_index t x) x (all x sx))

four_read : (a : Alphabet) (t : List ℕ) → AllRead a t → (s v w x y : ℕ) (rest : List ℕ) → v < 64 → w < 64 → x < 64 → y < 64
    → spelled (at (place.First a) s) (slice_index t v ∷ slice_index t w ∷ slice_index t x ∷ slice_index t y ∷ rest)
    ≡ (v * 4 + w / 16) ∷ (w % 16 * 16 + x / 4) ∷ (x % 4 * 64 + y) ∷ spelled (at (place.First a) (s + 1 + 1 + 1)) rest
unfolding spelled
four_read a t all s v w x y rest sv sw sx sy =
    three_read a t all s v w x (slice_index t y ∷ rest) sv sw sx
    ∙ ap (λ m. (v * 4 + w / 16) ∷ (w % 16 * 16 + x / 4) ∷ follows m (λ next. spelled next rest)) (step_fourth a (x % 4) (s + 1 + 1) (slice_index t y) y (all y sy))

-- ---- the end

abbrev IsTail : (n : ℕ) → List ℕ → Type 0
IsTail n tail = (tail ≡ []) ⊎ (tail ≡ replicate (padding_len n) 0x3D)

ends_third : (a : Alphabet) (bits s : ℕ) (tail : List ℕ) → bits ≡ 0 → (tail ≡ []) ⊎ (tail ≡ 0x3D ∷ 0x3D ∷ []) → spelled (at (place.Third a bits) s) tail ≡ []
unfolding spelled
ends_third a bits s tail none (inl e) = ap (spelled (at (place.Third a bits) s)) e ∙ ap (λ n. spelled (at (place.Third a n) s) []) none
ends_third a bits s tail none (inr e) = ap (spelled (at (place.Third a bits) s)) e ∙ ap (λ n. spelled (at (place.Third a n) s) (0x3D ∷ 0x3D ∷ [])) none

ends_fourth : (a : Alphabet) (bits s : ℕ) (tail : List ℕ) → bits ≡ 0 → (tail ≡ []) ⊎ (tail ≡ 0x3D ∷ []) → spelled (at (place.Fourth a bits) s) tail ≡ []
unfolding spelled
ends_fourth a bits s tail none (inl e) = ap (spelled (at (place.Fourth a bits) s)) e ∙ ap (λ n. spelled (at (place.Fourth a n) s) []) none
ends_fourth a bits s tail none (inr e) = ap (spelled (at (place.Fourth a bits) s)) e ∙ ap (λ n. spelled (at (place.Fourth a n) s) (0x3D ∷ [])) none

ends_first : (a : Alphabet) (s : ℕ) (tail : List ℕ) → IsTail 0 tail → spelled (at (place.First a) s) tail ≡ []
unfolding spelled
ends_first a s tail (inl e) = ap (spelled (at (place.First a) s)) e
ends_first a s tail (inr e) = ap (spelled (at (place.First a) s)) e

spelled_encoded : (a : Alphabet) (t : List ℕ) → AllRead a t → (s : ℕ) (bytes tail : List ℕ) → IsBytes bytes → IsTail (length bytes) tail
    → spelled (at (place.First a) s) (encode_symbols t bytes ++ tail) ≡ bytes
unfolding encode_symbols
spelled_encoded a t all s [] tail fits ends = ends_first a s tail ends
spelled_encoded a t all s (x ∷ []) tail fits ends =
    let sx : x < 256 = fits 0 in
    let whole : x / 4 * 4 + x % 4 * 16 / 16 ≡ x = omega arith in
    two_read a t all s (x / 4) (x % 4 * 16) tail (omega arith) (omega arith)
    ∙ ap (λ v. v ∷ spelled (at (place.Third a (x % 4 * 16 % 16)) (s + 1)) tail) whole ∙ ap (λ xs. x ∷ xs) (ends_third a (x % 4 * 16 % 16) (s + 1) tail (omega arith) ends)
spelled_encoded a t all s (x ∷ y ∷ []) tail fits ends =
    let sx : x < 256 = fits 0 in
    let sy : y < 256 = fits 1 in
    let one : x / 4 * 4 + (x % 4 * 16 + y / 16) / 16 ≡ x = omega arith in
    let other : (x % 4 * 16 + y / 16) % 16 * 16 + y % 16 * 4 / 4 ≡ y = omega arith in
    three_read a t all s (x / 4) (x % 4 * 16 + y / 16) (y % 16 * 4) tail (omega arith) (omega arith) (omega arith)
    ∙ ap (λ v. v ∷ ((x % 4 * 16 + y / 16) % 16 * 16 + y % 16 * 4 / 4) ∷ spelled (at (place.Fourth a (y % 16 * 4 % 4)) (s + 1 + 1)) tail) one
    ∙ ap (λ v. x ∷ v ∷ spelled (at (place.Fourth a (y % 16 * 4 % 4)) (s + 1 + 1)) tail) other
    ∙ ap (λ xs. x ∷ y ∷ xs) (ends_fourth a (y % 16 * 4 % 4) (s + 1 + 1) tail (omega arith) ends)
spelled_encoded a t all s (x ∷ y ∷ z ∷ rest) tail fits ends =
    let sx : x < 256 = fits 0 in
    let sy : y < 256 = fits 1 in
    let sz : z < 256 = fits 2 in
    let one : x / 4 * 4 + (x % 4 * 16 + y / 16) / 16 ≡ x = omega arith in
    let two : (x % 4 * 16 + y / 16) % 16 * 16 + (y % 16 * 4 + z / 64) / 4 ≡ y = omega arith in
    let three : (y % 16 * 4 + z / 64) % 4 * 64 + z % 64 ≡ z = omega arith in
    let same : padding_len (length (x ∷ y ∷ z ∷ rest)) ≡ padding_len (length rest) = omega arith in
    four_read a t all s (x / 4) (x % 4 * 16 + y / 16) (y % 16 * 4 + z / 64) (z % 64) (encode_symbols t rest ++ tail) (omega arith) (omega arith) (omega arith) (omega arith)
    ∙ (λ k. one k ∷ two k ∷ three k ∷ spelled (at (place.First a) (s + 1 + 1 + 1)) (encode_symbols t rest ++ tail))
    ∙ ap (λ xs. x ∷ y ∷ z ∷ xs) (spelled_encoded a t all (s + 1 + 1 + 1) rest tail (λ k. fits (suc (suc (suc k)))) (subst (λ n. (tail ≡ []) ⊎ (tail ≡ replicate n 0x3D)) same ends))

pub base64_is_spelled : Base64IsSpelled
base64_is_spelled bytes fits = (
  spelled_encoded alphabet.Standard (engine_symbols standard) all_standard spare_space bytes _ fits (inr refl),
  spelled_encoded alphabet.Standard (engine_symbols standard) all_standard spare_space bytes _ fits (inl refl),
  spelled_encoded alphabet.UrlSafe (engine_symbols url_safe) all_url_safe spare_space bytes _ fits (inr refl),
  spelled_encoded alphabet.UrlSafe (engine_symbols url_safe) all_url_safe spare_space bytes _ fits (inl refl),
)
