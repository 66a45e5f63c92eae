use Rattle.std.proofs.Common.{◌≡◌, true, string_bytes}
use Rattle.jser_line.specs.Printable.{is_printable}
use Rattle.jser_line.proofs.printed.printable.Given as goal

-- what was written so far is printable
abbrev pub invariant-units : goal.invariant-units
invariant-units l = is_printable (string_bytes l.printed) ≡ true
