use Rattle.jser_reader.proofs.PassLemmas.{then_passes, then_halts}
use Rattle.jser_reader.proofs.reader.Reader.then_next_tag.Goals as goal

pub returns-in-Stopped-clause-passes : goal.returns-in-Stopped-clause-passes
returns-in-Stopped-clause-passes g c = λ gate is_gate old before h.
    then_halts gate c.args.piece.now _ c.args.used old _ _ before _ _ h (c.in-Stopped.ensures.passes gate is_gate) c.split_at.ensures.back

pub returns-in-Took-clause-passes : goal.returns-in-Took-clause-passes
returns-in-Took-clause-passes g c = λ gate is_gate old before h.
    then_passes gate c.args.piece.now _ c.args.used c.in-Took.more old _ _ before _ _ h (c.in-Took.ensures.passes gate is_gate) c.split_at.ensures.back
