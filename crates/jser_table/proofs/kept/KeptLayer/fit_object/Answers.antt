-- The check finds this with no answer too; with one, it refuses a wrong body sooner.
use Rattle.std.proofs.Common.{rules}
use Rattle.jser_table.proofs.kept.KeptLayer.fit_object.Goals as goal

pub returns-else-has_block_data : goal.returns-else-has_block_data
returns-else-has_block_data c = search rules
