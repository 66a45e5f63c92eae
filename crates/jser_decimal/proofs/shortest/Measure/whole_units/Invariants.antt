use Rattle.std.proofs.Common.{◌<◌, ◌≤◌, ◌*◌, ◌^◌, ◌-◌}
use Rattle.jser_decimal.specs.Measured.{number}
use Rattle.jser_decimal.proofs.shortest.Measure.whole_units.Given as goal

abbrev pub decreases-halves : goal.decreases-halves
decreases-halves l = l.high - l.low

abbrev pub invariant-halves : goal.invariant-halves
invariant-halves l = (l.low * number l.fn.self.unit ≤ number l.fn.self.middle) × (number l.fn.self.middle < l.high * number l.fn.self.unit) × (l.low < l.high) × (l.high ≤ 10 ^ 17)
