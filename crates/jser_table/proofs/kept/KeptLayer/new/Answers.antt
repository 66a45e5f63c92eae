-- The check finds this with no answer too; with one, it refuses a wrong body sooner.
use Rattle.std.proofs.Common.{rules}
use Rattle.jser_table.proofs.kept.KeptLayer.new.Goals as goal

pub returns-in-None : goal.returns-in-None
returns-in-None c = search rules
