use Rattle.std.proofs.Common.{rules}
use Rattle.jser_reader.proofs.TextTakeLemmas.{ends_empty}
use Rattle.jser_reader.proofs.machine.Machine.text_length.Goals as goal

pub returns : goal.returns
returns g c = ends_empty _ c.args.n c.args.count _ _ c.args.self.now _ _ c.text_done-flow.ensures (search rules) c.after.ensures (search rules)
