use Rattle.jser_decimal.proofs.big.Big.+multiply_by_two_to.Given as goal

abbrev pub decreases-multiply_by_two_to : goal.decreases-multiply_by_two_to
decreases-multiply_by_two_to l = l.power
