use Rattle.std.proofs.Common.{arith, rules}
use Rattle.std.proofs.lemmas.Grind.{common_steps}
use Rattle.jser_printer.proofs.SaysLemmas.{says_none, says_on, says_no_units, says_stopped}
use Rattle.jser_printer.proofs.words.quote.write_units.Goals as goal

pub runs-init : goal.runs-init
runs-init g c = says_none _ _ _

pub runs-preserved : goal.runs-preserved
runs-preserved g c = says_on _ _ _ _ _ _ _ _ _ c.runs.invariant c.write_run-rest.ensures.said

pub returns : goal.returns
returns g c = says_no_units _ _ _ _ _ c.runs.rest.now c.runs.invariant (grind (arith, common_steps))

pub returns-then-has_failed : goal.returns-then-has_failed
returns-then-has_failed g c = says_stopped _ _ _ _ _ _ c.runs.invariant (search rules)
