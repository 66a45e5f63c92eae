use Rattle.uses_reader.proofs.TakingLemmas.{takes_none}
use Rattle.uses_reader.proofs.taking.take_raw.Goals as goal

pub returns : goal.returns
returns g c = takes_none _ _ _ _ _ c.next.ensures.memory
