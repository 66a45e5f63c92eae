use Rattle.std.proofs.Common.{refl}
use Rattle.jser_filter.proofs.FilterLemmas.{fault_at_first}
use Rattle.jser_filter.proofs.filter.no_memory_at_first.Goals as goal

pub returns : goal.returns
returns c = fault_at_first _ refl refl
