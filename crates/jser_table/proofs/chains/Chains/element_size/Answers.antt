use Rattle.jser_table.proofs.ChainLemmas.{elements_told}
use Rattle.jser_table.proofs.chains.Chains.element_size.Goals as goal

pub returns : goal.returns
returns c = rw (← c.self.view_is, ← c.deref.ensures.value) (elements_told _ _ _ _ c.descriptor_at.ensures c.element_size.ensures)
