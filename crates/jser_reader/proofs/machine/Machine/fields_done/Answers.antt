use Rattle.std.proofs.Common.{rules}
use Rattle.jser_reader.proofs.FieldLemmas.{fields_end}
use Rattle.jser_reader.proofs.machine.Machine.fields_done.Goals as goal

pub returns-clause-goes : goal.returns-clause-goes
returns-clause-goes c = fields_end _ c.args.self.now _ _ c.done-2.ensures.next c.done-2.ensures.result c.set_layer.ensures (search rules)
