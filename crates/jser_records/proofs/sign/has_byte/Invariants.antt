use Rattle.std.proofs.Common.{◌≡◌, length}
use Rattle.jser_records.specs.Signs.{has_byte}
use Rattle.jser_records.proofs.sign.has_byte.Given as goal

-- what is left decides as all does
abbrev pub invariant-signs : goal.invariant-signs
invariant-signs l = has_byte l.rest ≡ has_byte l.signs

abbrev pub decreases-signs : goal.decreases-signs
decreases-signs l = length l.rest
