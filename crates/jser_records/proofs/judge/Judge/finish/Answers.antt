use Rattle.std.proofs.Common.{subst}
use Rattle.jser_scan.specs.declared.Found.TheVariants as found
use Rattle.jser_records.specs.Judged.{Ends, HasJudged, IsSound, Judging}
use Rattle.jser_records.proofs.JudgeLemmas.{sound_yes}
use Rattle.jser_records.proofs.judge.Judge.finish.Goals as goal

pub invariant_of-self : goal.invariant_of-self
invariant_of-self c = c.finish.ensures.under c.self.inside.rules.now c.self.invariant

pub invariant_of-self-in-Err : goal.invariant_of-self-in-Err
invariant_of-self-in-Err c = c.finish.ensures.under c.self.inside.rules.now c.self.invariant

pub returns-in-Ok-clause-finds : goal.returns-in-Ok-clause-finds
returns-in-Ok-clause-finds c = λ taken.
    let rules = c.self.inside.rules.now in
    subst (λ (j : Judging). HasJudged j taken → IsSound j.rules taken (found.Accepted c.in-Ok.totals)) c.self.view_is
    (λ had. sound_yes rules taken c.in-Ok.totals (subst (λ r. Ends rules taken r) c.in-Ok.is (c.finish.ensures.ends rules taken c.self.invariant had.took)))
