use Rattle.uses_prim.proofs.Units.{told_none, told_some}
use Rattle.uses_prim.proofs.texts.push_onto.Goals as goal

pub returns-in-Ok-None : goal.returns-in-Ok-None
returns-in-Ok-None c = λ told len bytes accepted.
    told_none len _ _ _ _ c.in-Ok-None.field-0-is (c.in-Ok-None.ensures.unit len bytes _ accepted)

pub returns-in_ok-push-in-Ok-Some : goal.returns-in_ok-push-in-Ok-Some
returns-in_ok-push-in-Ok-Some c = λ told len bytes accepted.
    told_some len _ _ _ _ _ _ c.in-Ok-Some.field-0-is c.in_ok-push-in-Ok-Some.ensures.items (c.in-Ok-Some.ensures.unit len bytes _ accepted)
