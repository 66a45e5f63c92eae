use Rattle.std.proofs.Common.{Some, [], subst, sym}
use Rattle.jser_anywhere.specs.Scans.{HasScanned}
use Rattle.jser_anywhere.specs.Steps.{Scanning}
use Rattle.jser_check.proofs.PieceLemmas.{begins_both}
use Rattle.jser_check.proofs.check.Check.under.Goals as goal

pub returns-in-Ok-new-clause-begins : goal.returns-in-Ok-new-clause-begins
returns-in-Ok-new-clause-begins g c =
    begins_both c.new-in-Ok-new.result (Some c.in-Ok-new.home.value) c.args.gate c.new-in-Ok-new.ensures.gate c.new-in-Ok-new.ensures.stands
    (λ passes. subst (λ (s : Scanning). HasScanned passes [] s) (sym c.in-Ok-new.ensures.ok) (c.in-Ok.ensures.nothing passes))
