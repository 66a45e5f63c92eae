-- The check finds this with no answer too; with one, it refuses a wrong body sooner.
use Rattle.jser_table.proofs.FlagLemmas.{serializable_bit}
use Rattle.std.proofs.Common.{rules}
use Rattle.jser_table.proofs.flags.is_serializable.Goals as goal

pub returns : goal.returns
returns c = search (rules, serializable_bit)
