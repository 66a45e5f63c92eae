-- What holds of the bytes that a reader took.
use Rattle.std.specs.Prelude.{ℕ, ◌≡◌, List, ◌++◌}
use Rattle.jser_verdict.specs.Reasons.{Reason, truncated}
use Rattle.jser_verdict.specs.Gates.{Gate}
use Rattle.jser_verdict.specs.FirstFault.{IsFault}
use Rattle.jser_reader.specs.Readers.{Seen}
use Rattle.jser_reader.specs.ReaderStates.{StandsFor}
use Rattle.jser_reader.specs.declared.tally.Tally.{Tally}

-- where it stood for some bytes, these and the piece hold no fault but that they end
unfoldable pub HoldsNoFault : Gate → (piece : List ℕ) → Seen → Tally → Type 0
HoldsNoFault gate piece r tally =
    (bytes : List ℕ) → StandsFor gate bytes r tally → (at end : ℕ) (reason : Reason) → IsFault gate (bytes ++ piece) at end reason → reason ≡ truncated
