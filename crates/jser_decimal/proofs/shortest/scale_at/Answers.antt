use Rattle.jser_decimal.proofs.ShortestLemmas.{quarter_scaled, unit_scaled}
use Rattle.jser_decimal.proofs.shortest.scale_at.Goals as goal

pub returns-clause-quarter : goal.returns-clause-quarter
returns-clause-quarter c = quarter_scaled _ _ _ _ _ _ c.min-twos.ensures c.min-tens.ensures c.power_of.ensures.power

pub returns-clause-unit : goal.returns-clause-unit
returns-clause-unit c = unit_scaled _ _ _ _ _ _ c.min-twos.ensures c.min-tens.ensures c.power_of-2.ensures.power
