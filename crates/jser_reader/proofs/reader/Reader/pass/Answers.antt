use Rattle.std.proofs.Common.{rules}
use Rattle.jser_reader.proofs.PassLemmas.{pass_stopped}
use Rattle.jser_reader.proofs.reader.Reader.pass.Goals as goal

pub returns-then-is_stopped-clause-passes : goal.returns-then-is_stopped-clause-passes
returns-then-is_stopped-clause-passes g c = pass_stopped _ c.args.piece.now _ _ (search rules)
