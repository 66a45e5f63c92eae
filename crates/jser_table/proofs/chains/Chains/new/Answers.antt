use Rattle.jser_table.proofs.FiledLemmas.{shelved_none}
use Rattle.jser_table.proofs.AheadLemmas.{ahead_none}
use Rattle.std.proofs.Common.{rules}
use Rattle.jser_table.proofs.chains.Chains.new.Goals as goal

pub invariant_of-result : goal.invariant_of-result
invariant_of-result c = search (rules, shelved_none, ahead_none)
