use Rattle.jser_table.proofs.AheadLemmas.{next_after}
use Rattle.jser_table.proofs.walks.section_after.Goals as goal

pub returns-in-Walk : goal.returns-in-Walk
returns-in-Walk c = next_after _ _ _ _ _ _ c.requires.shelved c.requires.on c.in-Walk.ensures.0 c.section_below.ensures
