-- The check finds this with no answer too; with one, it refuses a wrong body sooner.
use Rattle.jser_table.proofs.FlagLemmas.{block_data_bit}
use Rattle.std.proofs.Common.{rules}
use Rattle.jser_table.proofs.flags.has_block_data.Goals as goal

pub returns : goal.returns
returns c = search (rules, block_data_bit)
