use Rattle.std.proofs.Common.{◌≡◌, take}
use Rattle.std.specs.List.{flat_map}
use Rattle.jser_shown.specs.Words.{quoted_unit}
use Rattle.jser_printer.proofs.name.quoted_units.Given as goal

abbrev pub invariant-loop-unit : goal.invariant-loop-unit
invariant-loop-unit l = l.quoted.items ≡ flat_map quoted_unit (take l.unit-index l.units)
