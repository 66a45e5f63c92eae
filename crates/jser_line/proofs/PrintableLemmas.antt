-- A printable text with one character more.
use Rattle.std.proofs.Common.{◌≡◌, ℕ, zero, suc, ◌/◌, ◌%◌, ◌^◌, ◌<◌, length, slice_index, arith, ◌&&◌, ◌||◌, ◌==◌, nat_le, Bool, true, false, List, [], ◌∷◌, ◌++◌, refl, sym, ap, ◌∙◌}
use Rattle.std.specs.List.{list_all}
use Rattle.std.specs.Int.{w16, byte_at, to_be_bytes}
use Rattle.std.proofs.Math.Nat.{mod-lt}
use Rattle.hex.specs.Hex.{encode_with, encode_lower, lower_digits}
use Rattle.jser_line.specs.Printable.{is_printable, is_printed}

both : (x y : Bool) → (x && y) ≡ true → (x ≡ true) × (y ≡ true)
both true y e = (refl, e)
both false y e = cc e

and_true : (x y : Bool) → x ≡ true → y ≡ true → (x && y) ≡ true
and_true true y e f = f
and_true false y e f = cc e

pub one_more : (bytes : List ℕ) (b : ℕ) → is_printed b ≡ true → is_printable bytes ≡ true → is_printable (bytes ++ b ∷ []) ≡ true
one_more [] b is e = and_true (is_printed b) true is refl
one_more (c ∷ bytes) b is e =
    let two = both (is_printed c) (is_printable bytes) e in
    and_true (is_printed c) (is_printable (bytes ++ b ∷ [])) two.0 (one_more bytes b is two.1)

-- and with more of them
all_more : (bytes more : List ℕ) → is_printable bytes ≡ true → is_printable more ≡ true → is_printable (bytes ++ more) ≡ true
all_more [] more e f = f
all_more (c ∷ bytes) more e f =
    let two = both (is_printed c) (is_printable bytes) e in
    and_true (is_printed c) (is_printable (bytes ++ more)) two.0 (all_more bytes more two.1 f)

-- so with hexadecimal digits
one_of : (t : List ℕ) (n : ℕ) → is_printable t ≡ true → n < length t → is_printed (slice_index t n) ≡ true
one_of [] n e h = absurd (omega (arith, h))
one_of (c ∷ t) zero e h = (both (is_printed c) (is_printable t) e).0
one_of (c ∷ t) (suc n) e h = one_of t n (both (is_printed c) (is_printable t) e).1 (omega (arith, h))

two_digits : (b : ℕ) (more : List ℕ) → b < 256 → is_printable (encode_lower more) ≡ true → is_printable (encode_lower (b ∷ more)) ≡ true
unfolding encode_with
two_digits b more fits e =
    and_true (is_printed (slice_index lower_digits (b / 16))) _ (one_of lower_digits (b / 16) refl (omega arith))
    (and_true (is_printed (slice_index lower_digits (b % 16))) _ (one_of lower_digits (b % 16) refl (omega arith)) e)

no_digits : is_printable (encode_lower []) ≡ true
unfolding encode_with
no_digits = refl

byte_fits : (i n : ℕ) → byte_at i n < 256
byte_fits zero n = omega arith
byte_fits (suc i) n = mod-lt (n / 256 ^ suc i) (omega arith)

pub hex_more : (bytes digits : List ℕ) (unit : ℕ) → digits ≡ encode_lower (to_be_bytes w16 unit) → is_printable bytes ≡ true → is_printable (bytes ++ digits) ≡ true
hex_more bytes digits unit is e =
    all_more bytes digits e
    (ap is_printable is ∙ two_digits (byte_at 1 unit) (byte_at 0 unit ∷ []) (byte_fits 1 unit) (two_digits (byte_at 0 unit) [] (byte_fits 0 unit) no_digits))
