use Rattle.std.proofs.Common.{◌<◌, ◌≤◌, ◌*◌, ◌^◌, ◌-◌}
use Rattle.jser_decimal.specs.Shortest.{quarter_at, unit_at}
use Rattle.jser_decimal.proofs.shortest.place_of.Given as goal

abbrev pub decreases-up : goal.decreases-up
decreases-up l = 700 - l.place

abbrev pub invariant-up : goal.invariant-up
invariant-up l = l.place ≤ 700

abbrev pub decreases-down : goal.decreases-down
decreases-down l = l.place

abbrev pub invariant-down : goal.invariant-down
invariant-down l = (l.place ≤ 700) × (quarter_at l.fn.size.power * (l.fn.size.significand * 4) < 10 ^ 17 * unit_at l.fn.least l.place)
