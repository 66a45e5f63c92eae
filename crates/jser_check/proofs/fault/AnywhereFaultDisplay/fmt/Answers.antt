use Rattle.jser_check.proofs.fault.AnywhereFaultDisplay.fmt.Goals as goal

pub returns-in-Hidden-clause-writes : goal.returns-in-Hidden-clause-writes
returns-in-Hidden-clause-writes g c = rw (c.in-Hidden.is) (c.write-in-Hidden.ensures.writes)
