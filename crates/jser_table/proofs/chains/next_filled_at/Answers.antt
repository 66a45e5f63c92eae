use Rattle.jser_table.proofs.WalkLemmas.{filled_found}
use Rattle.jser_table.proofs.chains.next_filled_at.Goals as goal

pub returns : goal.returns
returns c =
    rw c.count-3.ensures (filled_found _ _ _ _ _ _ c.descriptor_at.ensures c.filled_before-before.ensures c.highest-place.ensures.highest)
