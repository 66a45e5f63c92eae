use Rattle.std.proofs.Common.{rules}
use Rattle.jser_reader.proofs.FieldLemmas.{fields_begin}
use Rattle.jser_reader.proofs.machine.Machine.field_count.Goals as goal

pub returns : goal.returns
returns c =
    fields_begin c.args.n _ c.args.self.now _ _ c.fields_done.ensures.goes
    (search rules) (search rules) (search rules) (search rules) (search rules) (search rules) (search rules) (search rules) (search rules) (search rules)
