-- What holds of the tokens that a reader took.
use Rattle.std.specs.Prelude.{ℕ, ◌≡◌, List, ◌++◌}
use Rattle.jser_reading.specs.Labels.{Piece}
use Rattle.jser_reading.specs.TokenBytes.{joined}
use Rattle.jser_reading.specs.WalkLaws.{BeginEvery}
use Rattle.jser_verdict.specs.Gates.{Gate}
use Rattle.jser_reader.specs.declared.tally.Tally.{Tally}
use Rattle.jser_reader.specs.Readers.{Seen}
use Rattle.jser_reader.specs.ReaderStates.{StandsFor}
use Rattle.jser_reader.specs.ItemsTold.{StandsIn}

-- To stand for bytes is to stand for tokens and bytes of the next one, into which they are cut.
abbrev pub BytesAreTokens : Type 0
BytesAreTokens = (gate : Gate) (bytes : List ℕ) (r : Seen) (tally : Tally) →
    (StandsFor gate bytes r tally → (front : List Piece) × (cut : List ℕ) × (bytes ≡ joined front ++ cut) × StandsIn gate front cut r tally)
    × ((front : List Piece) × (cut : List ℕ) × (bytes ≡ joined front ++ cut) × StandsIn gate front cut r tally → StandsFor gate bytes r tally)

-- The tokens are the first ones of every stream that begins with these bytes.
abbrev pub TokensBeginStreams : Type 0
TokensBeginStreams = (gate : Gate) (front : List Piece) (cut : List ℕ) (r : Seen) (tally : Tally) → StandsIn gate front cut r tally
    → BeginEvery front (joined front ++ cut)
