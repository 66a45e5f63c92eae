-- What bytes decide that a reader took.
use Rattle.std.proofs.Common.{ℕ, List}
use Rattle.jser_verdict.specs.Gates.{Gate}
use Rattle.jser_verdict.proofs.WalkFaults.{refuses_promptly}
use Rattle.jser_reading.specs.Machine.{begin_state, left}
use Rattle.jser_reader.specs.declared.tally.Tally.{Tally}
use Rattle.jser_reader.specs.Readers.{Seen}
use Rattle.jser_reader.specs.ReaderStates.{StandsFor}
use Rattle.jser_check.specs.Answers.{DecideNothing}

pub stands_undecided : (gate : Gate) (bytes : List ℕ) (r : Seen) (tally : Tally) → StandsFor gate bytes r tally → DecideNothing gate bytes
unfolding StandsFor
stands_undecided gate bytes r tally s =
    let k = s.0.taken in refuses_promptly gate bytes k.cut (left begin_state k.tokens) k.all_bytes s.1 k.walked
