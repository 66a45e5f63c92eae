-- The check finds this with no answer too; with one, it refuses a wrong body sooner.
use Rattle.std.proofs.Common.{rules}
use Rattle.jser_check.proofs.gate.answer_at.Goals as goal

pub returns-then-options : goal.returns-then-options
returns-then-options c = search rules
