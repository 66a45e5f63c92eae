use Rattle.jser_table.proofs.AheadLemmas.{next_after}
use Rattle.jser_table.proofs.walks.section_after_kept.Goals as goal

pub returns-in-Walk-clause-next : goal.returns-in-Walk-clause-next
returns-in-Walk-clause-next c = next_after _ _ _ _ _ _ c.requires.shelved c.requires.on c.in-Walk.ensures.0 c.section_kept.ensures.found
