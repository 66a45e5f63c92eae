use Rattle.std.proofs.Common.{[]}
use Rattle.uses_commands.proofs.suggests.known_of.Goals as goal

pub returns-in-Ok : goal.returns-in-Ok
returns-in-Ok c = c.in-Ok.ensures.learns [] c.new-samples.ensures
