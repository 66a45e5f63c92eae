use Rattle.uses_decimal.proofs.NextLemmas.{next_meets}
use Rattle.uses_decimal.proofs.laws.next_meets.Goals as goal

pub returns : goal.returns
returns c = next_meets
