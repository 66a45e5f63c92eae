use Rattle.std.proofs.Common.{rules}
use Rattle.jser_reader.proofs.FieldLemmas.{interfaces_begin}
use Rattle.jser_reader.proofs.machine.Machine.interface_count.Goals as goal

pub returns : goal.returns
returns c =
    interfaces_begin c.args.n _ c.args.self.now _ _ c.interfaces_done.ensures
    (search rules) (search rules) (search rules) (search rules) (search rules) (search rules) (search rules)
