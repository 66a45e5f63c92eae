use Rattle.jser_reader.proofs.PassLemmas.{quiet_step, some_step, quiet_goes_on, quiet_in}
use Rattle.jser_reader.proofs.machine.Machine.pass_known.Goals as goal

pub take_known-requires-clause-goes_on : goal.take_known-requires-clause-goes_on
take_known-requires-clause-goes_on g c = quiet_goes_on c.args.self.now (quiet_in c.args.phase c.args.self.now c.requires.phase c.requires.quiet)

pub returns-clause-passes : goal.returns-clause-passes
returns-clause-passes g c = λ tally.
    quiet_step _ c.take_known.result _ c.args.piece.now _ _ tally c.take_known.ensures c.passed.ensures
    (quiet_in c.args.phase c.args.self.now c.requires.phase c.requires.quiet) c.requires.can

pub returns-clause-progress : goal.returns-clause-progress
returns-clause-progress g c = some_step _ c.take_known.result _ c.args.piece.now _ _ c.take_known.ensures c.passed.ensures c.requires.some
