use Rattle.std.proofs.Common.{refl, rules}
use Rattle.uses_prim.proofs.Scans.{ok_if}
use Rattle.uses_prim.proofs.texts.push_piece.Goals as goal

pub returns-then-push_plain-clause-goes_on : goal.returns-then-push_plain-clause-goes_on
returns-then-push_plain-clause-goes_on c = λ len bytes units accepted.
    (λ goes. (c.push_plain.ensures.units c.if-push_plain.true len bytes units accepted).begins, λ begins. refl)

pub returns-clause-goes_on : goal.returns-clause-goes_on
returns-clause-goes_on c = λ len bytes units accepted.
    ok_if c.push_all.result c.is_ok.result _ c.is_ok.ensures.value (c.push_all.ensures.accepts len bytes units (search rules))
