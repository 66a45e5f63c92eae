use Rattle.std.proofs.Common.{rules}
use Rattle.jser_reader.proofs.MemoryLemmas.{are_assigned}
use Rattle.jser_reader.proofs.reader.Reader.epoch_handles.Goals as goal

pub returns-clause-assigned : goal.returns-clause-assigned
returns-clause-assigned g c = are_assigned _ _ _ _ (search rules)
