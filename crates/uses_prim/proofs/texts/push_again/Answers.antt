use Rattle.uses_prim.proofs.Scans.{refused_twice}
use Rattle.uses_prim.proofs.texts.push_again.Goals as goal

pub returns-in-Err : goal.returns-in-Err
returns-in-Err c = λ len bytes units accepted.
    refused_twice c.push.result c.push-in-Err.result c.in-Err.field-0 _ c.in-Err.is (c.push.ensures.accepts len bytes units accepted)
    (c.push-in-Err.ensures.failed (c.in-Err.ensures.fault.0)).0
