use Rattle.jser_decimal.proofs.ShortestLemmas.{common_is_some, digits_scaled, shortest_is}
use Rattle.jser_decimal.proofs.shortest.shortest.Goals as goal

pub whole_units-requires-clause-digits : goal.whole_units-requires-clause-digits
whole_units-requires-clause-digits c =
    let range = c.measure_at-measure.ensures.range in
    digits_scaled _ _ _ _ _ range.middle range.unit (common_is_some c.args.least c.args.size.now.power c.place_of-place.result) c.place_of-place.ensures.digits

pub returns : goal.returns
returns c =
    shortest_is c.args.least c.args.size.now c.place_of-place.result c.fewest.result c.measure_at-measure.result c.place_of-place.ensures.place c.measure_at-measure.ensures.range c.fewest.ensures
