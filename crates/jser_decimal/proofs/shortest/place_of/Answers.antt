use Rattle.std.proofs.Common.{arith}
use Rattle.std.proofs.lemmas.Bool.Decides.{nat_tests}
use Rattle.jser_decimal.proofs.ShortestLemmas.{place_found}
use Rattle.jser_decimal.proofs.shortest.place_of.Goals as goal

pub returns-else-is_within-clause-place : goal.returns-else-is_within-clause-place
returns-else-is_within-clause-place c =
    let test = c.if-is_within.ensures in
    place_found _ _ _ c.down.invariant.0 c.down.invariant.1 (λ some. grind (arith, nat_tests, test))

pub returns-after-down-clause-place : goal.returns-after-down-clause-place
returns-after-down-clause-place c =
    let none = c.down-test.false in
    place_found _ _ _ c.down.invariant.0 c.down.invariant.1 (λ some. omega (arith, none, some))
