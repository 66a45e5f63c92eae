use Rattle.std.specs.Prelude.{option_map}
use Rattle.jser_check.proofs.PieceLemmas.{begins_both}
use Rattle.jser_check.proofs.check.Check.restart.Goals as goal

pub returns-clause-begins : goal.returns-clause-begins
returns-clause-begins g c =
    begins_both c.restart.new.self (option_map (λ home. home.value) c.restart_scan.new.scan) c.self.inside.reader.gate c.restart.ensures.gate c.restart.ensures.stands c.restart_scan.ensures.nothing
