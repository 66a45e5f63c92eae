-- Decimal numbers: one more digit, and what the front of some digits says of them all.
use Rattle.std.proofs.Common.{◌≡◌, ℕ, ◌+◌, ◌-◌, ◌*◌, ◌<◌, ◌≤◌, Bool, true, false, ◌&&◌, cond, List, [], ◌∷◌, length, take, drop, fold, get_or, Some, None, refl, ap, sym, ◌∙◌, arith}
use Rattle.std.specs.List.{list_all}
use Rattle.std.proofs.lemmas.List.{take_more, take-append-drop, take_all, get_or_default}
use Rattle.std.proofs.lemmas.Bool.{le-leb, lt-leb}
use Rattle.std.proofs.lemmas.List.Folds.{list_all_more, list_all_at}
use Rattle.std.proofs.lemmas.List.Sums.{fold_push, fold-append}
use Rattle.jser_filter.specs.Limits.{is_digit, digit_value, number_written, are_digits, number_up_to}

abbrev next_value : ℕ → ℕ → ℕ
next_value value digit = 10 * value + (digit - 0x30)

-- the digits read so far are digits, and write this number
pub record HasRead (most : ℕ) (digits : List ℕ) (index value : ℕ) : Type 0 where
  pub all : list_all is_digit (take index digits) ≡ true
  pub value_is : value ≡ number_written (take index digits)
  pub within : value ≤ most

number_written_more : (digits : List ℕ) (index : ℕ) → index < length digits → number_written (take (index + 1) digits) ≡ next_value (number_written (take index digits)) (get_or digits index 0)
number_written_more digits index inside = ap number_written (take_more digits index 0 inside) ∙ fold_push next_value 0 (take index digits) (get_or digits index 0)

from_le : (value : ℕ) (digits : List ℕ) → value ≤ fold next_value value digits
from_le value [] = omega arith
from_le value (digit ∷ digits) = omega (arith, from_le (next_value value digit) digits)

number_written_front_le : (digits : List ℕ) (n : ℕ) → number_written (take n digits) ≤ number_written digits
number_written_front_le digits n =
    let whole : number_written digits ≡ fold next_value (number_written (take n digits)) (drop n digits) =
    ap number_written (sym (take-append-drop n digits)) ∙ fold-append next_value 0 (take n digits) (drop n digits)
    in
    omega (arith, whole, from_le (number_written (take n digits)) (drop n digits))

chosen : (test : Bool) (unit digit : ℕ) → Some digit ≡ cond test (Some (unit - 0x30)) None → (test ≡ true) × (digit ≡ unit - 0x30)
chosen true unit digit is = (refl, cc)
chosen false unit digit is = cc

refused : (test : Bool) (unit : ℕ) → None ≡ cond test (Some (unit - 0x30)) None → test ≡ false
refused true unit is = cc
refused false unit is = refl

and_false : (test : Bool) → (test && false) ≡ false
and_false true = refl
and_false false = refl

are_digits_some : (digits : List ℕ) → 0 < length digits → are_digits digits ≡ list_all is_digit digits
are_digits_some [] some = absurd (omega arith)
are_digits_some (digit ∷ digits) some = refl

pub number_written_next : (digits : List ℕ) (index unit value digit next most : ℕ) → HasRead most digits index value → index < length digits → unit ≡ get_or digits index unit → Some digit ≡ digit_value unit → next ≡ 10 * value + digit → next ≤ most → HasRead most digits (index + 1) next
number_written_next digits index unit value digit next most read inside here is next_is within =
    let told = chosen (is_digit unit) unit digit is in
    let more : list_all is_digit (take (index + 1) digits) ≡ (list_all is_digit (take index digits) && is_digit unit) =
    list_all_more is_digit digits index unit inside ∙ ap (λ u. list_all is_digit (take index digits) && is_digit u) (sym here)
    in
    let last : get_or digits index 0 ≡ unit = get_or_default digits index 0 unit inside ∙ sym here in
    record {
      all = rw (more, read.all, told.0) refl;
      value_is = omega (arith, next_is, told.1, number_written_more digits index inside, last, read.value_is);
      within = within;
    }

pub no_number_other : (digits : List ℕ) (index unit most : ℕ) → index < length digits → unit ≡ get_or digits index unit → None ≡ digit_value unit → None ≡ number_up_to most digits
no_number_other digits index unit most inside here is =
    let other : is_digit (get_or digits index unit) ≡ false = ap is_digit (sym here) ∙ refused (is_digit unit) unit is in
    let none : are_digits digits ≡ false = are_digits_some digits (omega arith) ∙ list_all_at is_digit digits index unit inside other in
    rw none refl

pub no_number_above : (digits : List ℕ) (index unit value digit most : ℕ) → HasRead most digits index value → index < length digits → unit ≡ get_or digits index unit → Some digit ≡ digit_value unit → most < 10 * value + digit → None ≡ number_up_to most digits
no_number_above digits index unit value digit most read inside here is above =
    let told = chosen (is_digit unit) unit digit is in
    let last : get_or digits index 0 ≡ unit = get_or_default digits index 0 unit inside ∙ sym here in
    let large : most < number_written digits =
    omega (arith, told.1, number_written_more digits index inside, last, read.value_is, number_written_front_le digits (index + 1))
    in
    rw (lt-leb (number_written digits) most large, and_false (are_digits digits)) refl

pub number_is : (digits : List ℕ) (value most : ℕ) → HasRead most digits (length digits) value → 0 < length digits → Some value ≡ number_up_to most digits
number_is digits value most read some =
    let whole : take (length digits) digits ≡ digits = take_all (length digits) digits (omega arith) in
    let all : are_digits digits ≡ true = are_digits_some digits some ∙ ap (list_all is_digit) (sym whole) ∙ read.all in
    let value_is : number_written digits ≡ value = ap number_written (sym whole) ∙ sym read.value_is in
    rw (all, value_is, le-leb value most read.within) refl
