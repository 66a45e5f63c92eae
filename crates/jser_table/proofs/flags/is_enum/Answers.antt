-- The check finds this with no answer too; with one, it refuses a wrong body sooner.
use Rattle.jser_table.proofs.FlagLemmas.{enum_bit}
use Rattle.std.proofs.Common.{rules}
use Rattle.jser_table.proofs.flags.is_enum.Goals as goal

pub returns : goal.returns
returns c = search (rules, enum_bit)
