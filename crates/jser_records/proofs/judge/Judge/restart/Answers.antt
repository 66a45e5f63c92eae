use Rattle.jser_records.proofs.judge.Judge.restart.Goals as goal

pub invariant_of-self : goal.invariant_of-self
invariant_of-self c = c.restart.ensures.under c.self.inside.rules.now c.self.invariant
