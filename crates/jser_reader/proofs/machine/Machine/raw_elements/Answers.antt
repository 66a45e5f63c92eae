use Rattle.std.proofs.Common.{rules}
use Rattle.jser_reader.proofs.ArrayLemmas.{raw_elements}
use Rattle.jser_reader.proofs.machine.Machine.raw_elements.Goals as goal

pub returns : goal.returns
returns c = λ elements is.
    raw_elements c.args.size c.args.n elements _ c.args.self.now _ _ c.done.ensures.next c.done.ensures.result (search rules) c.requires is
    (search rules) (search rules) (search rules) (search rules) (search rules)
