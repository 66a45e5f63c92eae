use Rattle.std.proofs.Common.{None}
use Rattle.jser_check.proofs.PieceLemmas.{begins_both}
use Rattle.jser_check.proofs.check.Check.plain.Goals as goal

pub returns-clause-begins : goal.returns-clause-begins
returns-clause-begins g c = begins_both c.new.result None c.args.gate c.new.ensures.gate c.new.ensures.stands (λ passes. tt)
