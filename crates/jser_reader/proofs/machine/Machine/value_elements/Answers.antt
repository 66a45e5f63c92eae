use Rattle.std.proofs.Common.{rules}
use Rattle.jser_reader.proofs.ArrayLemmas.{value_elements}
use Rattle.jser_reader.proofs.machine.Machine.value_elements.Goals as goal

pub returns : goal.returns
returns c =
    value_elements c.args.n _ c.args.self.now _ _ c.done.ensures.next c.done.ensures.result c.requires
    (search rules) (search rules) (search rules) (search rules) (search rules)
