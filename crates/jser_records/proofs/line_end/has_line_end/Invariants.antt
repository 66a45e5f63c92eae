use Rattle.std.proofs.Common.{◌≡◌, length}
use Rattle.jser_records.specs.LineEnds.{has_line_end}
use Rattle.jser_records.proofs.line_end.has_line_end.Given as goal

-- what is left decides as all does
abbrev pub invariant-bytes : goal.invariant-bytes
invariant-bytes l = has_line_end l.rest ≡ has_line_end l.bytes

abbrev pub decreases-bytes : goal.decreases-bytes
decreases-bytes l = length l.rest
