use Rattle.jser_prim.specs.Texts.{BeginsText}
use Rattle.std.proofs.Common.{◌∷◌, ◌++◌, []}
use Rattle.jser_prim.proofs.ReadLemmas.{told_none, told_some, refuses}
use Rattle.jser_prim.proofs.reading.push_onto.Goals as goal

pub returns-in-Ok-None-clause-goes_on : goal.returns-in-Ok-None-clause-goes_on
returns-in-Ok-None-clause-goes_on c = λ t len bytes accepted.
    told_none len _ _ _ _ c.in-Ok-None.field-0-is (c.in-Ok-None.ensures.unit len bytes _ accepted)

pub returns-in-Ok-clause-goes_on : goal.returns-in-Ok-clause-goes_on
returns-in-Ok-clause-goes_on c = λ t len bytes accepted.
    told_some len _ _ _ _ _ _ c.in-Ok-Some.field-0-is c.in-Ok.ensures.items (c.in-Ok-Some.ensures.unit len bytes _ accepted)

pub returns-in-Err-clause-lost : goal.returns-in-Err-clause-lost
returns-in-Err-clause-lost c = λ e len bytes accepted begins.
    refuses c.push.result c.in-Err.field-0 (BeginsText len (bytes ++ (c.args.byte ∷ []))) c.in-Err.is (c.push.ensures.accepts len bytes _ accepted) begins
