use Rattle.std.proofs.Common.{◌≤◌, All, length, drop}
use Rattle.jser_records.specs.Headers.{IsDigit}
use Rattle.jser_records.proofs.header.number_start.Given as goal

-- what was gone past are digits
abbrev pub invariant-digits : goal.invariant-digits
invariant-digits l = record {
  within : l.at ≤ length l.line;
  all : All IsDigit (drop l.at l.line);
}

abbrev pub decreases-digits : goal.decreases-digits
decreases-digits l = l.at
