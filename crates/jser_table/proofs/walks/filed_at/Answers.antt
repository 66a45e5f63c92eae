use Rattle.jser_table.proofs.FiledLemmas.{filed_at_place}
use Rattle.jser_table.proofs.walks.filed_at.Goals as goal

pub returns-clause-told : goal.returns-clause-told
returns-clause-told c = filed_at_place _ _ _ _ c.requires.shelved c.requires.number_in
