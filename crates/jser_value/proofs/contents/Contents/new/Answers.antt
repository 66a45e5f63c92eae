-- The check finds this with no answer too; with one, it refuses a wrong body sooner.
use Rattle.std.proofs.Common.{rules}
use Rattle.jser_value.proofs.contents.Contents.new.Goals as goal

pub returns-in-Some-clause-handed_back : goal.returns-in-Some-clause-handed_back
returns-in-Some-clause-handed_back c = search rules
