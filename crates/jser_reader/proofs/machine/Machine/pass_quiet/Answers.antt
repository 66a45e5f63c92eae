use Rattle.jser_reader.proofs.PassLemmas.{quiet_step, some_step, quiet_goes_on}
use Rattle.jser_reader.proofs.machine.Machine.pass_quiet.Goals as goal

pub take-requires-clause-goes_on : goal.take-requires-clause-goes_on
take-requires-clause-goes_on g c = quiet_goes_on c.args.self.now c.requires.quiet

pub returns-clause-passes : goal.returns-clause-passes
returns-clause-passes g c = λ tally. quiet_step _ c.take.result _ c.args.piece.now _ _ tally c.take.ensures c.passed.ensures c.requires.quiet c.requires.can

pub returns-clause-progress : goal.returns-clause-progress
returns-clause-progress g c = some_step _ c.take.result _ c.args.piece.now _ _ c.take.ensures c.passed.ensures c.requires.some
