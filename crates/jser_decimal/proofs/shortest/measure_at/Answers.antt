use Rattle.std.proofs.Common.{◌∙◌, ◌*◌, ap, refl}
use Rattle.jser_decimal.specs.Shortest.{quarter_at}
use Rattle.jser_decimal.proofs.ShortestLemmas.{product_scaled}
use Rattle.jser_decimal.proofs.shortest.measure_at.Goals as goal

pub returns-clause-range : goal.returns-clause-range
returns-clause-range c =
    let quarter = c.scale_at-scale.ensures.quarter in
    record {
      unit = c.scale_at-scale.ensures.unit;
      low = product_scaled _ _ _ _ _ quarter c.times.ensures.product ∙ ap (λ n. quarter_at c.args.size.now.power * n) c.low_quarters.ensures;
      middle = product_scaled _ _ _ _ _ quarter c.times-2.ensures.product;
      high = product_scaled _ _ _ _ _ quarter c.times-3.ensures.product;
      ends = refl;
    }
