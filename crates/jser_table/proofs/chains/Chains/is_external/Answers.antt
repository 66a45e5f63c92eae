use Rattle.jser_table.proofs.ChainLemmas.{external_told}
use Rattle.jser_table.proofs.chains.Chains.is_external.Goals as goal

pub returns : goal.returns
returns c = rw (← c.self.view_is, ← c.deref.ensures.value) (external_told _ _ _ _ c.descriptor_at.ensures c.is_externalizable.ensures)
