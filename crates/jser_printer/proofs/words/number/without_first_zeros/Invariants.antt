use Rattle.std.proofs.Common.{◌≡◌, length}
use Rattle.jser_shown.specs.Words.{without_zeros}
use Rattle.jser_printer.proofs.words.number.without_first_zeros.Given as goal

abbrev pub invariant-zeros : goal.invariant-zeros
invariant-zeros l = without_zeros l.text ≡ without_zeros l.rest

abbrev pub decreases-zeros : goal.decreases-zeros
decreases-zeros l = length l.rest
