use Rattle.std.proofs.Common.{rules, refl}
use Rattle.jser_reader.proofs.TextScanLemmas.{keeps_unit}
use Rattle.jser_reader.proofs.machine.Machine.keep_unit.Goals as goal

pub returns : goal.returns
returns c = keeps_unit c.args.unit c.in-Some.unit _ c.args.self.now _ (search rules) refl (search rules)
