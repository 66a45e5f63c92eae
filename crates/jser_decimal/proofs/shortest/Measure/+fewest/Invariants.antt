use Rattle.jser_decimal.proofs.shortest.Measure.+fewest.Given as goal

abbrev pub decreases-fewest : goal.decreases-fewest
decreases-fewest l = l.more
