use Rattle.jser_reader.proofs.PassLemmas.{then_passes, then_halts}
use Rattle.jser_reader.proofs.machine.Machine.go_on.Goals as goal

pub returns-in-Stopped-clause-passes : goal.returns-in-Stopped-clause-passes
returns-in-Stopped-clause-passes g c = λ first tally h.
    then_halts _ c.args.piece.now _ c.args.used first _ _ tally tally tally h (c.in-Stopped.ensures.passes tally) c.split_at.ensures.back

pub returns-in-Took-clause-passes : goal.returns-in-Took-clause-passes
returns-in-Took-clause-passes g c = λ first tally h.
    then_passes _ c.args.piece.now _ c.args.used c.in-Took.more first _ _ tally tally tally h (c.in-Took.ensures.passes tally) c.split_at.ensures.back
