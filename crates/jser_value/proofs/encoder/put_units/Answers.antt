-- The check finds this with no answer too; with one, it refuses a wrong body sooner.
use Rattle.std.proofs.Common.{arith, rules}
use Rattle.std.proofs.lemmas.Grind.{common_steps}
use Rattle.jser_prim.proofs.OutgoingLemmas.{puts_none}
use Rattle.jser_value.proofs.EncodeLemmas.{puts_unit}
use Rattle.jser_value.proofs.encoder.put_units.Goals as goal

pub loop-unit-init : goal.loop-unit-init
loop-unit-init g c = search (rules, puts_none)

pub loop-unit-preserved : goal.loop-unit-preserved
loop-unit-preserved g c = search (rules, puts_unit)

pub returns : goal.returns
returns g c = grind (arith, common_steps)
