use Rattle.uses_reader.proofs.AskingLemmas.{stays_refused, stays_spent}
use Rattle.uses_reader.proofs.asking.next_again.Goals as goal

pub returns-clause-refused : goal.returns-clause-refused
returns-clause-refused g c = stays_refused _ _ _ c.next.ensures.stays

pub returns-clause-spent : goal.returns-clause-spent
returns-clause-spent g c = stays_spent _ _ _ c.next.ensures.stays
