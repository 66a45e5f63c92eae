-- The check finds this with no answer too; with one, it refuses a wrong body sooner.
use Rattle.jser_table.proofs.WalkLemmas.{layer_found}
use Rattle.std.proofs.Common.{rules}
use Rattle.jser_table.proofs.chains.layer_at.Goals as goal

pub returns : goal.returns
returns c = search (rules, layer_found)
