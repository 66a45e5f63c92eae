-- The check finds this with no answer too; with one, it refuses a wrong body sooner.
use Rattle.std.proofs.Common.{rules}
use Rattle.jser_index.proofs.survey.Survey.take.Goals as goal

pub returns-in-InterfaceCount : goal.returns-in-InterfaceCount
returns-in-InterfaceCount c = search rules
