-- The check finds this with no answer too; with one, it refuses a wrong body sooner.
use Rattle.std.proofs.lemmas.Grind.{common_steps}
use Rattle.std.proofs.Common.{arith}
use Rattle.jser_printer.proofs.name.numbered.Goals as goal

pub returns : goal.returns
returns c = grind (arith, common_steps)
