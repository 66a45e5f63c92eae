-- The check finds this with no answer too; with one, it refuses a wrong body sooner.
use Rattle.std.proofs.Common.{rules}
use Rattle.jser_value.proofs.contents.Contents.list.Goals as goal

pub returns-clause-list : goal.returns-clause-list
returns-clause-list c = search rules
