use Rattle.std.proofs.Common.{◌≡◌}
use Rattle.jser_table.specs.Codes.{AreLeading}
use Rattle.jser_table.proofs.codes.leading_of.Given as goal

-- all codes so far are those of primitive types
abbrev pub invariant-loop-code : goal.invariant-loop-code
invariant-loop-code l = record {
  all : l.leading ≡ l.code-index;
  leading : AreLeading l.codes l.leading;
}
