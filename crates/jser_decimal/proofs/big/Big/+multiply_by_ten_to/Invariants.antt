use Rattle.jser_decimal.proofs.big.Big.+multiply_by_ten_to.Given as goal

abbrev pub decreases-multiply_by_ten_to : goal.decreases-multiply_by_ten_to
decreases-multiply_by_ten_to l = l.power
