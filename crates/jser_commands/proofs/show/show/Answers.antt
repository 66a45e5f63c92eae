use Rattle.std.proofs.Common.{inr}
use Rattle.jser_commands.proofs.ShowLemmas.{says_front}
use Rattle.jser_commands.proofs.show.show.Goals as goal

pub returns-in-Ok-clause-failed : goal.returns-in-Ok-clause-failed
returns-in-Ok-clause-failed g c = λ h. inr (says_front _ c.args.values c.in-Ok.graph _ _ c.in-Ok.ensures.accepted (c.print_text.ensures.failed h))
