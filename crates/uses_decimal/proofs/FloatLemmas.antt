-- Floats by their bits.
use Rattle.std.proofs.Common.{◌≡◌, ◌<◌, ◌≤◌, ℕ, ◌+◌, ◌*◌, ◌^◌, ◌/◌, ◌%◌, refl, subst, Bool, true, false, arith}
use Rattle.std.specs.Prelude.{nat_lt, ◌==◌}
use Rattle.std.proofs.lemmas.Bool.Decides.{nat_tests}
use Rattle.std.proofs.lemmas.Nat.{div_below, mod_below, div-add-mod'}
use Rattle.jser_decimal.specs.Floats.{magnitude_of, size_with}
use Rattle.uses_decimal.proofs.RangeLemmas.{left_true}
use Rattle.uses_decimal.proofs.ShortestLemmas.{takes_shortest}
use Rattle.uses_decimal.specs.Laws.{DoublesAreShortest, HasShortest, SinglesAreShortest, range_of}
use Rattle.uses_decimal.specs.Meaning.{IsSize}

-- a size that an exponent and a fraction spell
size_is : (least one exponent fraction : ℕ) → least ≤ 1074 → 0 < one → one ≤ 2 ^ 52 → fraction < one → (exponent ≡ 0 → 0 < fraction) → exponent ≤ least + 1001
    → IsSize least (size_with one exponent fraction).significand (size_with one exponent fraction).power (size_with one exponent fraction).at_edge
size_is least one exponent fraction kind some few less zeros within = go (exponent == 0) refl
  where
    go : (x : Bool) → (exponent == 0) ≡ x → IsSize least (size_with one exponent fraction).significand (size_with one exponent fraction).power (size_with one exponent fraction).at_edge
    go true e = rw e (record {
      kind = kind;
      within = omega arith;
      some = zeros (grind (arith, nat_tests, e));
      bits = omega (arith, less, few);
      edge = λ edge. absurd (grind (arith, edge));
    })
    go false e = rw e (record {
      kind = kind;
      within = omega (arith, within);
      some = omega (arith, some);
      bits = omega (arith, less, few);
      edge = λ edge.
          let first : (fraction == 0) ≡ true = left_true (fraction == 0) (nat_lt 1 exponent) edge in
          grind (arith, nat_tests, first, few);
    })

-- a float that is finite and not zero
has_shortest : (least one infinite bits : ℕ) → least ≤ 1074 → 0 < one → one ≤ 2 ^ 52 → infinite ≤ (least + 1001) * one → 0 < bits → bits < infinite
    → HasShortest (range_of least one bits) (magnitude_of one least infinite bits)
has_shortest least one infinite bits kind some few most any finite =
    let zero : (bits == 0) ≡ false = grind (arith, nat_tests, any) in
    let less : nat_lt bits infinite ≡ true = grind (arith, nat_tests, finite) in
    let exponent : bits / one < least + 1001 = div_below bits one (least + 1001) some (omega (arith, finite, most)) in
    let whole : bits / one * one + bits % one ≡ bits = div-add-mod' bits one in
    rw (zero, less)
    (takes_shortest least (size_with one (bits / one) (bits % one))
    (size_is least one (bits / one) (bits % one) kind some few (mod_below bits one some)
    (λ none. let all : 0 * one + bits % one ≡ bits = subst (λ n. n * one + bits % one ≡ bits) none whole in omega (arith, all, any)) (omega (arith, exponent))))

pub doubles_are_shortest : DoublesAreShortest
doubles_are_shortest bits any finite = has_shortest 1074 (2 ^ 52) (2047 * 2 ^ 52) (bits % 2 ^ 63) (omega arith) (omega arith) (omega arith) (omega arith) any finite

pub singles_are_shortest : SinglesAreShortest
singles_are_shortest bits any finite = has_shortest 149 (2 ^ 23) (255 * 2 ^ 23) (bits % 2 ^ 31) (omega arith) (omega arith) (omega arith) (omega arith) any finite
