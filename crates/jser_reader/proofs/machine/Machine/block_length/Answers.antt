use Rattle.std.proofs.Common.{rules}
use Rattle.jser_reader.proofs.NumberLemmas.{some_bytes}
use Rattle.jser_reader.proofs.machine.Machine.block_length.Goals as goal

pub returns : goal.returns
returns c =
    some_bytes c.args.n _ c.args.self.now _ _ c.done.ensures.next c.done.ensures.result (search rules) (search rules)
    (search rules) (search rules) (search rules) (search rules) (search rules)
