use Rattle.std.proofs.Common.{◌++◌, sym, subst}
use Rattle.jser_records.specs.Judged.{Feeds, HasJudged, Judging}
use Rattle.jser_records.proofs.JudgeLemmas.{decided}
use Rattle.jser_records.proofs.judge.Judge.feed.Goals as goal

pub invariant_of-self : goal.invariant_of-self
invariant_of-self c = c.feed.ensures.under c.self.inside.rules.now c.self.invariant

pub invariant_of-self-in-Err : goal.invariant_of-self-in-Err
invariant_of-self-in-Err c = c.feed.ensures.under c.self.inside.rules.now c.self.invariant

pub returns-in-Err-clause-finds : goal.returns-in-Err-clause-finds
returns-in-Err-clause-finds c = λ taken had.
    let rules = c.self.inside.rules.now in
    let piece = c.args.bytes.now in
    let before : HasJudged (record { rules = rules; check = c.self.inside.check; last = c.self.inside.last }) taken =
    subst (λ (j : Judging). HasJudged j taken) (sym c.self.view_is) had in
    decided rules c.keep.new.self (taken ++ piece) c.in-Err.fault c.found.result
    (subst (λ r. Feeds rules c.feed.new.check taken piece r) c.in-Err.is (c.feed.ensures.feeds rules taken c.self.invariant before.took))
    c.found.ensures.is (c.keep.ensures taken before.last) c.found.ensures.name c.found.ensures.refuses
