use Rattle.jser_prim.proofs.RunLemmas.{passed_more}
use Rattle.jser_prim.proofs.runs.spelled_len.Goals as goal

pub units-preserved : goal.units-preserved
units-preserved c = passed_more _ _ _ c.units.invariant c.in-Some.ensures
