use Rattle.std.proofs.Common.{subst, Some}
use Rattle.jser_reader.specs.Passes.{Passes}
use Rattle.jser_reader.proofs.reader.Reader.pass_many.Goals as goal

pub returns-clause-passes : goal.returns-clause-passes
returns-clause-passes g c = λ gate is_gate.
    subst (λ r. Passes gate c.args.piece.now (Some c.pass_many.result) r.machine r.tally c.pass_many.new.self c.pass_many.new.tally) c.self.view_is
    (c.pass_many.ensures.passes gate is_gate)
