-- The check finds this with no answer too; with one, it refuses a wrong body sooner.
use Rattle.std.proofs.Common.{rules}
use Rattle.jser_reader.proofs.refusal.Reason.name.Goals as goal

pub returns-in-BadTag : goal.returns-in-BadTag
returns-in-BadTag c = search rules
