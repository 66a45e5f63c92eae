use Rattle.std.proofs.Common.{rules}
use Rattle.jser_reader.proofs.FieldLemmas.{interfaces_end}
use Rattle.jser_reader.proofs.machine.Machine.interfaces_done.Goals as goal

pub returns : goal.returns
returns c =
    interfaces_end _ c.args.self.now _ _ c.done.ensures.next c.done.ensures.result
    (search rules) (search rules) (search rules) (search rules) (search rules) (search rules)
