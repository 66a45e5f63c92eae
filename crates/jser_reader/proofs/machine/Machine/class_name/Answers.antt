use Rattle.std.proofs.Common.{rules}
use Rattle.jser_reader.proofs.NameLemmas.{class_named}
use Rattle.jser_reader.proofs.machine.Machine.class_name.Goals as goal

pub returns-in-Ok : goal.returns-in-Ok
returns-in-Ok g c =
    class_named _ c.in-Ok.kind _ _ c.args.self.now _ _ c.done.ensures.next c.done.ensures.result c.in-Ok.ensures
    (search rules) (search rules) (search rules) (search rules) (search rules) (search rules)
