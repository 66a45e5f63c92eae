-- Type codes: one code of a list after the other.
use Rattle.std.proofs.Common.{◌≡◌, ℕ, zero, suc, ◌+◌, ◌-◌, ◌<◌, List, [], ◌∷◌, length, drop, get_or, Option, Some, None, option_map, refl, ap, ◌∙◌, arith}
use Rattle.std.specs.Prelude.{slice_get, is_some, IsTrue}
use Rattle.std.proofs.lemmas.Bool.{false≢true}
use Rattle.std.proofs.Math.Seq.{drop-cons}
use Rattle.jser_table.specs.Codes.{PrimCode, size_of, prim_code_of, with_code, primitive_codes, AreLeading}

-- the codes that are left, where the next of them is read
codes_left : (codes : List ℕ) (i : ℕ) → i < length codes → primitive_codes (drop i codes) ≡ with_code (prim_code_of (get_or codes i 0)) (primitive_codes (drop (i + 1) codes))
codes_left codes i inside =
    let e : suc i ≡ i + 1 = omega arith in
    ap primitive_codes (drop-cons codes i 0 inside) ∙ ap (λ n. with_code (prim_code_of (get_or codes i 0)) (primitive_codes (drop n codes))) e

-- what comes after a raw value
pub record After (codes : List PrimCode) (more : List PrimCode) (left : ℕ) : Type 0 where
  pub there : slice_get more (left - 1) ≡ slice_get codes left
  pub inside : left < length codes → left - 1 < length more

some_size : (size : ℕ) → None ≡ Some size → ⊥
some_size size e = cc

after_code : (o : Option PrimCode) (more : List PrimCode) (size left : ℕ) → option_map size_of o ≡ Some size → (left ≡ 0 → ⊥) → After (with_code o more) more left
after_code None more size left is some = absurd (some_size size is)
after_code (Some c) more size zero is some = absurd (some refl)
after_code (Some c) more size (suc left) is some =
    let e : suc left - 1 ≡ left = omega arith in
    record { there = rw e refl; inside = λ inside. omega (arith, inside) }

pub after_prim : (codes : List ℕ) (i size left : ℕ) → i < length codes → option_map size_of (prim_code_of (get_or codes i 0)) ≡ Some size → (left ≡ 0 → ⊥) → After (primitive_codes (drop i codes)) (primitive_codes (drop (i + 1) codes)) left
after_prim codes i size left inside is some =
    rw (codes_left codes i inside) (after_code (prim_code_of (get_or codes i 0)) (primitive_codes (drop (i + 1) codes)) size left is some)

-- the codes at the beginning

first_code : (o : Option PrimCode) (more : List PrimCode) → IsTrue (is_some o) → slice_get (with_code o more) 0 ≡ o
first_code None more is = absurd (false≢true is)
first_code (Some c) more is = refl

code_behind : (o : Option PrimCode) (more : List PrimCode) (k : ℕ) → IsTrue (is_some o) → slice_get (with_code o more) (suc k) ≡ slice_get more k
code_behind None more k is = absurd (false≢true is)
code_behind (Some c) more k is = refl

pub leading_code : (codes : List ℕ) (leading k : ℕ) → AreLeading codes leading → k < leading → slice_get (primitive_codes codes) k ≡ prim_code_of (get_or codes k 0)
leading_code [] leading k are inside = absurd (omega (arith, are.inside))
leading_code (c ∷ codes) leading zero are inside = first_code (prim_code_of c) (primitive_codes codes) (are.each 0 inside)
leading_code (c ∷ codes) leading (suc k) are inside =
    code_behind (prim_code_of c) (primitive_codes codes) k (are.each 0 (omega (arith, inside)))
    ∙ leading_code codes (leading - 1) k
    (record { inside = omega (arith, are.inside); each = λ n before. are.each (suc n) (omega (arith, before)) })
    (omega (arith, inside))

pub leading_found : (codes : List ℕ) (leading k size : ℕ) → AreLeading codes leading → k < leading → option_map size_of (prim_code_of (get_or codes k 0)) ≡ Some size → option_map size_of (slice_get (primitive_codes codes) k) ≡ Some size
leading_found codes leading k size are inside is = ap (option_map size_of) (leading_code codes leading k are inside) ∙ is
