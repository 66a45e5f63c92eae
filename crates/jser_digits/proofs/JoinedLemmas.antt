-- The bits of a pair and of a group.
use Rattle.std.proofs.Common.{◌≡◌, ℕ, ◌+◌, ◌*◌, ◌<◌, ◌^◌, Option, Some, None, bit_or, refl, ap, ◌∙◌, arith}
use Rattle.std.specs.Prelude.{unwrap_or}
use Rattle.std.proofs.lemmas.Nat.{le_or_l, le_or_r, or_shifted}
use Rattle.std.proofs.lemmas.Bool.Decides.{nat_tests}
use Rattle.hex.specs.Hex.{hex_digit_value}
use Rattle.jser_digits.specs.declared.digit.Alphabet.{Alphabet}
use Rattle.jser_digits.specs.declared.digit.Alphabet.TheVariants as alphabet
use Rattle.jser_digits.specs.Digits.{value_in, either_value, standard_value, url_safe_value}
use Rattle.jser_digits.specs.Joined.{AreGroup, ArePair}
use Rattle.jser_digits.proofs.DigitLemmas.{hex_small, small}

-- a digit that was looked up, where its value is below 2^24
record Digit (o : Option ℕ) (value : ℕ) : Type 0 where
  v : ℕ
  is : o ≡ Some v
  value_is : value ≡ v

digit_of : (o : Option ℕ) (value : ℕ) → value ≡ unwrap_or o 16777216 → value < 16777216 → Digit o value
digit_of None value e l = absurd (omega (arith, e, l))
digit_of (Some v) value e l = record { v = v; is = refl; value_is = e }

joined : (x y k lo : ℕ) → x ≡ y * 2 ^ k → lo < 2 ^ k → bit_or x lo ≡ y * 2 ^ k + lo
joined x y k lo e l = ap (λ n. bit_or n lo) e ∙ or_shifted y k lo l

pub pair_bits : (a b p q : ℕ) → p ≡ unwrap_or (hex_digit_value a) 16777216 → q ≡ unwrap_or (hex_digit_value b) 16777216 → bit_or (p * 16) q < 256
    → ArePair a b (bit_or (p * 16) q)
pair_bits a b p q ep eq l =
    let high = digit_of (hex_digit_value a) p ep (omega (arith, l, le_or_l (p * 16) q)) in
    let low = digit_of (hex_digit_value b) q eq (omega (arith, l, le_or_r (p * 16) q)) in
    let s2 = hex_small b low.v low.is in
    let j = joined (p * 16) high.v 4 q (omega (arith, high.value_is)) (omega (arith, low.value_is, s2)) in
    record {
      high = high.v;
      low = low.v;
      is_high = high.is;
      is_low = low.is;
      small_high = hex_small a high.v high.is;
      small_low = s2;
      is = omega (arith, j, low.value_is);
    }

pub group_bits : (letters : Alphabet) (a b c d p q r s : ℕ) → p ≡ unwrap_or (value_in letters a) 16777216 → q ≡ unwrap_or (value_in letters b) 16777216
    → r ≡ unwrap_or (value_in letters c) 16777216 → s ≡ unwrap_or (value_in letters d) 16777216
    → bit_or (bit_or (bit_or (p * 262144) (q * 4096)) (r * 64)) s < 16777216 → AreGroup letters a b c d (bit_or (bit_or (bit_or (p * 262144) (q * 4096)) (r * 64)) s)
group_bits letters a b c d p q r s ep eq er es l =
    let pq = bit_or (p * 262144) (q * 4096) in
    let pqr = bit_or pq (r * 64) in
    let one = digit_of (value_in letters a) p ep (omega (arith, l, le_or_l pqr s, le_or_l pq (r * 64), le_or_l (p * 262144) (q * 4096))) in
    let two = digit_of (value_in letters b) q eq (omega (arith, l, le_or_l pqr s, le_or_l pq (r * 64), le_or_r (p * 262144) (q * 4096))) in
    let three = digit_of (value_in letters c) r er (omega (arith, l, le_or_l pqr s, le_or_r pq (r * 64))) in
    let four = digit_of (value_in letters d) s es (omega (arith, l, le_or_r pqr s)) in
    let s2 = small letters b two.v two.is in
    let s3 = small letters c three.v three.is in
    let s4 = small letters d four.v four.is in
    let j1 = joined (p * 262144) one.v 18 (q * 4096) (omega (arith, one.value_is)) (omega (arith, two.value_is, s2)) in
    let j2 = joined pq (one.v * 64 + two.v) 12 (r * 64) (omega (arith, j1, two.value_is)) (omega (arith, three.value_is, s3)) in
    let j3 = joined pqr ((one.v * 64 + two.v) * 64 + three.v) 6 s (omega (arith, j2, three.value_is)) (omega (arith, four.value_is, s4)) in
    record {
      one = one.v;
      two = two.v;
      three = three.v;
      four = four.v;
      is_one = one.is;
      is_two = two.is;
      is_three = three.is;
      is_four = four.is;
      small_one = small letters a one.v one.is;
      small_two = s2;
      small_three = s3;
      small_four = s4;
      is = omega (arith, j3, four.value_is);
    }
