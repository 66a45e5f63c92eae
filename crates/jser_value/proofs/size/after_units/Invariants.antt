use Rattle.std.proofs.Common.{◌≡◌, ◌+◌, length, drop}
use Rattle.jser_prim.specs.ModifiedUtf8.{modified_utf8}
use Rattle.jser_value.proofs.size.after_units.Given as goal

abbrev pub invariant-loop-unit : goal.invariant-loop-unit
invariant-loop-unit l = length (modified_utf8 l.units) + l.left ≡ l.room + length (modified_utf8 (drop l.unit-index l.units))
