use Rattle.jser_table.proofs.ChainLemmas.{fit_told}
use Rattle.jser_table.proofs.chains.Chains.fit.Goals as goal

pub returns : goal.returns
returns c = rw (← c.self.view_is, ← c.deref.ensures.value) (fit_told _ _ _ _ _ c.descriptor_at-class.ensures c.fit.ensures)
