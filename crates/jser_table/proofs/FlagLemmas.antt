-- Flags: a test of one bit of a number is a test of its digit in base 2.
use Rattle.std.proofs.Common.{zero, suc, ◌≡◌, ℕ, ◌*◌, ◌/◌, ◌%◌, ◌^◌, ◌<◌, not, nat_eq, ◌==◌, refl, bit_and, arith}
use Rattle.std.proofs.lemmas.Nat.Bits.{and_pow}
use Rattle.std.proofs.lemmas.Bool.{ne_eqb}
use Rattle.std.proofs.Math.Nat.{zero-mul, one-mul}

-- a digit in base 2, shifted, is not 0 exactly where it is 1
digit_test : (digit unit : ℕ) → digit < 2 → 0 < unit → not (nat_eq (digit * unit) 0) ≡ (digit == 1)
digit_test zero unit small above = rw (zero-mul unit) refl
digit_test (suc zero) unit small above = rw (one-mul unit, ne_eqb unit 0 (λ e. omega arith)) refl
digit_test (suc (suc digit)) unit small above = absurd (omega arith)

bit_test : (n k : ℕ) → 0 < 2 ^ k → not (nat_eq (bit_and n (2 ^ k)) 0) ≡ (n / 2 ^ k % 2 == 1)
bit_test n k above = rw (and_pow n k) (digit_test (n / 2 ^ k % 2) (2 ^ k) (omega arith) above)

pub serializable_bit : (n : ℕ) → not (nat_eq (bit_and n 2) 0) ≡ (n / 2 % 2 == 1)
serializable_bit n = bit_test n 1 (omega arith)

pub externalizable_bit : (n : ℕ) → not (nat_eq (bit_and n 4) 0) ≡ (n / 4 % 2 == 1)
externalizable_bit n = bit_test n 2 (omega arith)

pub block_data_bit : (n : ℕ) → not (nat_eq (bit_and n 8) 0) ≡ (n / 8 % 2 == 1)
block_data_bit n = bit_test n 3 (omega arith)

pub enum_bit : (n : ℕ) → not (nat_eq (bit_and n 16) 0) ≡ (n / 16 % 2 == 1)
enum_bit n = bit_test n 4 (omega arith)
