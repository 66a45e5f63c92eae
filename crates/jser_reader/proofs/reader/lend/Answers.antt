-- The check finds this with no answer too; with one, it refuses a wrong body sooner.
use Rattle.jser_reader.proofs.ItemLemmas.{makes_step}
use Rattle.std.proofs.Common.{rules}
use Rattle.jser_reader.proofs.reader.lend.Goals as goal

pub returns-clause-lent : goal.returns-clause-lent
returns-clause-lent c = search (rules, makes_step)
