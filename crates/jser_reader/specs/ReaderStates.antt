-- What a reader stands for, and what its calls answer.
use Rattle.std.specs.Prelude.{◌≡◌, ℕ, ◌<◌, ◌≤◌, List, ◌++◌, length, take, Result, Ok, Err}
use Rattle.jser_grammar.specs.Trees.{ContentTrees}
use Rattle.jser_verdict.specs.Gates.{Gate}
use Rattle.jser_verdict.specs.Passing.{Passes}
use Rattle.jser_reader.specs.declared.item.Step.{Step}
use Rattle.jser_reader.specs.declared.item.Step.TheVariants as step
use Rattle.jser_reader.specs.declared.item.Totals.{Totals}
use Rattle.jser_reader.specs.declared.phase.Phase.TheVariants as phase
use Rattle.jser_reader.specs.declared.refusal.Refusal.{Refusal}
use Rattle.jser_reader.specs.declared.refusal.Stop.{Stop}
use Rattle.jser_reader.specs.declared.refusal.Stop.TheVariants as stop
use Rattle.jser_reader.specs.Readers.{Seen}
use Rattle.jser_reader.specs.Streams.{AreRefused, AreTruncated}
use Rattle.jser_reader.specs.declared.tally.Tally.{Tally}
use Rattle.jser_reader.specs.Tallies.{HasCounted, AreTotals, whole_of}
use Rattle.jser_reader.specs.WholeContents.{IsWhole, StaysWhole}

-- What the contracts of a reader see of it: its gate, its machine, and the counts of what it read.
pub record Reading (G : Type 0) : Type 0 where
  pub gate : G
  pub machine : Seen
  pub tally : Tally

-- Under this gate it stands for these bytes: it took them, no more than the gate allows, and refused nothing. A reader
-- keeps no history: the bytes are any that lead to what it holds.
unfoldable pub StandsFor : Gate → List ℕ → Seen → Tally → Type 0
StandsFor gate bytes r tally = HasCounted gate bytes r tally × (length bytes ≤ gate.bytes)

-- it answers the same refusal from now on
unfoldable pub HasRefused : Refusal → Seen → Type 0
HasRefused refusal r = (r.phase ≡ phase.Stopped) × (r.meter.stop ≡ stop.Refused refusal)

-- it answers Spent from now on
unfoldable pub IsSpent : Seen → Type 0
IsSpent r = (r.phase ≡ phase.Stopped) × (r.meter.stop ≡ stop.Spent)

-- an item of so many bytes
abbrev pub IsItem : (used : ℕ) → Step → Type 0
IsItem used (step.Item item count) = count ≡ used
IsItem used step.More = ⊥

-- why it stopped within a piece: it refuses the bytes up to the deciding one, which lies in the piece, and knows how many of all
-- bytes are whole contents, whatever comes; or memory ran out
abbrev pub StopCases : Gate → (bytes piece : List ℕ) → Stop → Seen → Tally → Type 0
StopCases gate bytes piece (stop.Refused refusal) r tally =
    (used : ℕ) × (used ≤ length piece) × AreRefused gate (bytes ++ take used piece) refusal × HasRefused refusal r × (0 < used)
    × StaysWhole gate (bytes ++ take used piece) (whole_of r tally)
StopCases gate bytes piece stop.OutOfMemory r tally = IsSpent r
StopCases gate bytes piece stop.Spent r tally = ⊥

-- Where it stood for `bytes` and was given a piece, it answers an item and stands for some bytes of the piece more; or it
-- took the whole piece; or it stopped.
abbrev pub NextCases : Gate → (bytes piece : List ℕ) → Result Step Stop → Seen → Tally → Type 0
NextCases gate bytes piece (Ok (step.Item item used)) r tally = (0 < used) × (used ≤ length piece) × StandsFor gate (bytes ++ take used piece) r tally
NextCases gate bytes piece (Ok step.More) r tally = StandsFor gate (bytes ++ piece) r tally
NextCases gate bytes piece (Err why) r tally = StopCases gate bytes piece why r tally

unfoldable pub NextTells : Gate → (piece : List ℕ) → Result Step Stop → Seen → Tally → Seen → Tally → Type 0
NextTells gate piece result old before new after =
    (bytes : List ℕ) → StandsFor gate bytes old before → NextCases gate bytes piece result new after

-- an item takes some of the piece
abbrev pub HasProgress : (piece : List ℕ) → Step → Type 0
HasProgress piece (step.Item item used) = (0 < used) × (used ≤ length piece)
HasProgress piece step.More = Unit {0}

-- What a whole piece comes to, with no item lent.
abbrev pub SkipCases : Gate → (bytes piece : List ℕ) → Result (Unit {0}) Stop → Seen → Tally → Type 0
SkipCases gate bytes piece (Ok _) r tally = StandsFor gate (bytes ++ piece) r tally
SkipCases gate bytes piece (Err why) r tally = StopCases gate bytes piece why r tally

unfoldable pub SkipTells : Gate → (piece : List ℕ) → Result (Unit {0}) Stop → Seen → Tally → Seen → Tally → Type 0
SkipTells gate piece result old before new after =
    (bytes : List ℕ) → StandsFor gate bytes old before → SkipCases gate bytes piece result new after

-- A reader that has refused bytes, or is spent, answers that again, and nothing changes.
unfoldable pub StaysStopped : {A : Type 0} → Result A Stop → (old new : Seen) → Type 0
StaysStopped result old new =
    ((refusal : Refusal) → HasRefused refusal old → (result ≡ Err (stop.Refused refusal)) × HasRefused refusal new)
    × (IsSpent old → (result ≡ Err stop.Spent) × IsSpent new)

-- Where it stood for bytes that are a stream which its gate lets pass, it says so, with the counts of the list; or they end
-- too early.
abbrev pub FinishCases : Gate → (bytes : List ℕ) → Result Totals Stop → Seen → Type 0
FinishCases gate bytes (Ok totals) r = ((list : ContentTrees) × Passes gate bytes list × AreTotals bytes list totals) × IsSpent r
FinishCases gate bytes (Err (stop.Refused refusal)) r = AreTruncated gate bytes refusal × HasRefused refusal r
FinishCases gate bytes (Err stop.OutOfMemory) r = ⊥
FinishCases gate bytes (Err stop.Spent) r = ⊥

unfoldable pub FinishTells : Gate → Result Totals Stop → Seen → Tally → Seen → Type 0
FinishTells gate result old tally new = (bytes : List ℕ) → StandsFor gate bytes old tally → FinishCases gate bytes result new

-- How many of the bytes for which it stands are whole contents.
unfoldable pub WholeTold : Gate → ℕ → Seen → Tally → Type 0
WholeTold gate n r tally = (bytes : List ℕ) → StandsFor gate bytes r tally → IsWhole gate bytes n

-- At the end of the bytes for which it stood it knows how many of them are whole contents: all of a stream.
unfoldable pub WholeAtEnd : Gate → Seen → Tally → Seen → Tally → Type 0
WholeAtEnd gate old before new after = (bytes : List ℕ) → StandsFor gate bytes old before → IsWhole gate bytes (whole_of new after)

-- A reader that has stopped goes on to say how many bytes are whole contents.
unfoldable pub KeepsWhole : Seen → Tally → Seen → Tally → Type 0
KeepsWhole old before new after = old.phase ≡ phase.Stopped → whole_of new after ≡ whole_of old before
