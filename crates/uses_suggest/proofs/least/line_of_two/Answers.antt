use Rattle.std.proofs.Common.{[], ◌∷◌}
use Rattle.uses_suggest.proofs.least.line_of_two.Goals as goal

pub returns-in-Ok : goal.returns-in-Ok
returns-in-Ok c = c.in-Ok.ensures.one_line (c.args.second.now ∷ c.args.first.now ∷ []) c.in_default.ensures
