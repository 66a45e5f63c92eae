-- The check finds this with no answer too; with one, it refuses a wrong body sooner.
use Rattle.jser_table.proofs.FiledLemmas.{shelved_none}
use Rattle.jser_table.proofs.AheadLemmas.{ahead_none}
use Rattle.std.proofs.Common.{rules}
use Rattle.jser_table.proofs.chains.Chains.clear.Goals as goal

pub invariant_of-self : goal.invariant_of-self
invariant_of-self c = search (rules, shelved_none, ahead_none)
