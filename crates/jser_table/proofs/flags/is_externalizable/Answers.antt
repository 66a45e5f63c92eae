-- The check finds this with no answer too; with one, it refuses a wrong body sooner.
use Rattle.jser_table.proofs.FlagLemmas.{externalizable_bit}
use Rattle.std.proofs.Common.{rules}
use Rattle.jser_table.proofs.flags.is_externalizable.Goals as goal

pub returns : goal.returns
returns c = search (rules, externalizable_bit)
