use Rattle.std.proofs.Common.{[]}
use Rattle.uses_suggest.proofs.LeastLemmas.{learns_again}
use Rattle.uses_suggest.proofs.least.add_both.Goals as goal

pub returns-in-Ok : goal.returns-in-Ok
returns-in-Ok c =
    learns_again c.args.first.now c.args.second.now c.add.new.self c.add-in-Ok.new.self c.add-in-Ok.result c.add-in-Ok.ensures.learns (c.in-Ok.ensures.learns [] c.requires)
