use Rattle.std.proofs.Common.{◌*◌}
use Rattle.jser_decimal.proofs.ShortestLemmas.{common_is_some, within_scaled}
use Rattle.jser_decimal.proofs.shortest.is_within.Goals as goal

pub returns : goal.returns
returns c =
    within_scaled _ _ _ _ _ (c.args.size.now.significand * 4) _ c.is_times_below.result c.scale_at-scale.ensures.quarter c.scale_at-scale.ensures.unit
    (common_is_some c.args.least c.args.size.now.power c.args.place) c.times-middle.ensures.product c.is_times_below.ensures
