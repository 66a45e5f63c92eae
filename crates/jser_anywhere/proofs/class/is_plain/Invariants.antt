use Rattle.std.proofs.Common.{◌≡◌, drop}
use Rattle.jser_anywhere.specs.Names.{is_plain, plain_from}
use Rattle.jser_anywhere.proofs.class.is_plain.Given as goal

abbrev pub invariant-units : goal.invariant-units
invariant-units l = is_plain l.units ≡ plain_from l.wants (drop l.unit-index l.units)
