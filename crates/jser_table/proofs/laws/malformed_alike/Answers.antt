-- The check finds this with no answer too; with one, it refuses a wrong body sooner.
use Rattle.jser_table.proofs.NameLemmas.{malformed_both}
use Rattle.std.proofs.Common.{rules}
use Rattle.jser_table.proofs.laws.malformed_alike.Goals as goal

pub returns : goal.returns
returns c = search (rules, malformed_both)
