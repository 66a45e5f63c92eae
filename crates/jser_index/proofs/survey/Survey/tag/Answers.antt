-- The check finds this with no answer too; with one, it refuses a wrong body sooner.
use Rattle.std.proofs.Common.{rules}
use Rattle.jser_index.proofs.survey.Survey.tag.Goals as goal

pub returns-clause-finds : goal.returns-clause-finds
returns-clause-finds c = search rules

pub returns-clause-place : goal.returns-clause-place
returns-clause-place c = search rules
