use Rattle.std.proofs.Common.{rules}
use Rattle.jser_reader.proofs.FieldLemmas.{sets_layer}
use Rattle.jser_reader.proofs.machine.Machine.set_layer.Goals as goal

pub returns : goal.returns
returns c =
    sets_layer c.args.self.now _ c.plain_kind-kind.result c.self.inside.fields.codes c.flags-flags.result
    (search rules) (search rules) (search rules) (search rules) (search rules) (search rules) (search rules) (search rules)
