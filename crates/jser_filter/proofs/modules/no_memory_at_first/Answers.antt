use Rattle.std.proofs.Common.{refl}
use Rattle.jser_filter.proofs.ModulesLemmas.{fault_at_first}
use Rattle.jser_filter.proofs.modules.no_memory_at_first.Goals as goal

pub returns : goal.returns
returns c = fault_at_first _ refl refl
