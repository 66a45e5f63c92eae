use Rattle.std.proofs.Common.{rules}
use Rattle.jser_reader.proofs.MemoryLemmas.{frames_are_bounded}
use Rattle.jser_reader.proofs.reader.Reader.open_frames.Goals as goal

pub returns-clause-bounds : goal.returns-clause-bounds
returns-clause-bounds g c = frames_are_bounded _ _ _ _ (search rules)
