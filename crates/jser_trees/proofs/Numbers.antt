-- Bytes and numbers at the front, as the cursor takes them.
use Rattle.std.proofs.Common.{◌≡◌, ℕ, ◌<◌, ◌≤◌, ◌^◌, true, false, List, [], ◌∷◌, length, take, drop, Some, None, refl, sym, ◌∙◌, ap, arith}
use Rattle.std.specs.Prelude.{nat_le}
use Rattle.std.proofs.lemmas.Bool.Decides.{nat_tests}
use Rattle.jser_prim.specs.Bytes.{big_bytes}
use Rattle.jser_reading.specs.TokensFromBytes.{number_of}
use Rattle.jser_reading.proofs.Decoding.{number_2, number_4, number_8}
use Rattle.jser_trees.specs.Building.{front_in, number_in}

pub front_there : (n : ℕ) (bytes : List ℕ) → n ≤ length bytes → front_in n bytes ≡ Some (take n bytes, drop n bytes)
unfolding front_in
front_there n bytes h = let e : nat_le n (length bytes) ≡ true = grind (arith, nat_tests) in rw e refl

pub front_short : (n : ℕ) (bytes : List ℕ) → length bytes < n → front_in n bytes ≡ None
unfolding front_in
front_short n bytes h = let e : nat_le n (length bytes) ≡ false = grind (arith, nat_tests) in rw e refl

pub byte_there : (b : ℕ) (bytes rest : List ℕ) → bytes ≡ b ∷ rest → number_in 1 bytes ≡ Some (b, rest)
unfolding number_in
byte_there b bytes rest e =
    let n : number_of (b ∷ []) ≡ b = omega arith in
    rw (e, front_there 1 (b ∷ rest) (omega arith)) (ap (λ (x : ℕ). Some (x, rest)) n)

pub byte_short : (bytes : List ℕ) → bytes ≡ [] → number_in 1 bytes ≡ None
unfolding number_in front_in
byte_short bytes e = rw e refl

pub number_short : (k : ℕ) (bytes : List ℕ) → front_in k bytes ≡ None → number_in k bytes ≡ None
unfolding number_in
number_short k bytes e = rw e refl

number_there : (k n : ℕ) (bytes front rest : List ℕ) → front_in k bytes ≡ Some (front, rest) → number_of (big_bytes k n) ≡ n → big_bytes k n ≡ front → number_in k bytes ≡ Some (n, rest)
unfolding number_in
number_there k n bytes front rest e back same = rw e (ap (λ (x : List ℕ). Some (number_of x, rest)) (sym same) ∙ ap (λ (x : ℕ). Some (x, rest)) back)

pub two_there : (n : ℕ) (bytes front rest : List ℕ) → n < 2 ^ 16 → front_in 2 bytes ≡ Some (front, rest) → big_bytes 2 n ≡ front → number_in 2 bytes ≡ Some (n, rest)
two_there n bytes front rest h e same = number_there 2 n bytes front rest e (number_2 n h) same

pub four_there : (n : ℕ) (bytes front rest : List ℕ) → n < 2 ^ 32 → front_in 4 bytes ≡ Some (front, rest) → big_bytes 4 n ≡ front → number_in 4 bytes ≡ Some (n, rest)
four_there n bytes front rest h e same = number_there 4 n bytes front rest e (number_4 n h) same

pub eight_there : (n : ℕ) (bytes front rest : List ℕ) → n < 2 ^ 64 → front_in 8 bytes ≡ Some (front, rest) → big_bytes 8 n ≡ front → number_in 8 bytes ≡ Some (n, rest)
eight_there n bytes front rest h e same = number_there 8 n bytes front rest e (number_8 n h) same
