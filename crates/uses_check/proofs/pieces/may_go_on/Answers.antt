use Rattle.uses_check.proofs.pieces.may_go_on.Goals as goal

pub returns-in-Ok-clause-undecided : goal.returns-in-Ok-clause-undecided
returns-in-Ok-clause-undecided c = λ taken st e. c.in-Ok.ensures.undecided taken st
