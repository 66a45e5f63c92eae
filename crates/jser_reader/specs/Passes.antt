-- What a reader says of a step that takes some of the front of a piece and lends nothing: a token, part of one, or several.
use Rattle.std.specs.Prelude.{◌≡◌, ◌≢◌, ℕ, ◌<◌, ◌≤◌, List, ◌++◌, length, take, Option, Some, None}
use Rattle.jser_grammar.specs.Parts.{IsBytes}
use Rattle.jser_reading.specs.Labels.{Label, Piece}
use Rattle.jser_reading.specs.ComesNext.{ComesNext}
use Rattle.jser_verdict.specs.Gates.{Gate, IsGate}
use Rattle.jser_reader.specs.declared.machine.passed.Passed.{Passed}
use Rattle.jser_reader.specs.declared.machine.passed.Passed.TheVariants as passed
use Rattle.jser_reader.specs.declared.machine.take.taken.Taken.{Taken}
use Rattle.jser_reader.specs.declared.machine.take.taken.Taken.TheVariants as taken
use Rattle.jser_reader.specs.declared.phase.Phase.{Phase}
use Rattle.jser_reader.specs.declared.phase.Phase.TheVariants as phase
use Rattle.jser_reader.specs.declared.refusal.Stop.{Stop}
use Rattle.jser_reader.specs.declared.refusal.Stop.TheVariants as stop
use Rattle.jser_reader.specs.declared.tally.Tally.{Tally}
use Rattle.jser_reader.specs.Memory.{IsCheckedName, EndsInside}
use Rattle.jser_reader.specs.Readers.{Seen}
use Rattle.jser_reader.specs.WholeContents.{StaysWhole}
use Rattle.jser_reader.specs.Streams.{AreRefused}
use Rattle.jser_reader.specs.ReaderStates.{StandsFor}
use Rattle.jser_reader.specs.ItemsTold.{StandsIn}
use Rattle.jser_reader.specs.States.{IsWithin}

-- why the machine stopped within a piece: bytes of it are refused, or memory ran out
abbrev pub HaltCases : Gate → (bytes piece : List ℕ) → Tally → Stop → Type 0
HaltCases gate bytes piece tally (stop.Refused refusal) =
    (used : ℕ) × (used ≤ length piece) × AreRefused gate (bytes ++ take used piece) refusal × (0 < used) × StaysWhole gate (bytes ++ take used piece) tally.begun
HaltCases gate bytes piece tally stop.OutOfMemory = Unit {0}
HaltCases gate bytes piece tally stop.Spent = ⊥

-- So many bytes of the piece were taken; or the machine stopped within it.
abbrev pub PassCases : Gate → (bytes piece : List ℕ) → Option ℕ → Seen → Tally → Type 0
PassCases gate bytes piece (Some used) r tally = (used ≤ length piece) × StandsFor gate (bytes ++ take used piece) r tally
PassCases gate bytes piece None r tally = (r.phase ≡ phase.Stopped) × HaltCases gate bytes piece tally r.meter.stop

unfoldable pub PassTells : Gate → (piece : List ℕ) → Option ℕ → Seen → Tally → Seen → Tally → Type 0
PassTells gate piece result old before new after =
    (bytes : List ℕ) → StandsFor gate bytes old before → PassCases gate bytes piece result new after

-- Where the piece ends inside the token in which it begins, the same token is open; or the machine stopped, which is not
-- for want of memory, but in a checked name.
abbrev pub InsideCases : Gate → (front : List Piece) (cut piece : List ℕ) (checked : Type 0) → Option ℕ → Seen → Tally → Type 0
InsideCases gate front cut piece checked (Some used) r tally = StandsIn gate front (cut ++ take used piece) r tally
InsideCases gate front cut piece checked None r tally = (checked → ⊥) → r.meter.stop ≢ stop.OutOfMemory

unfoldable pub PassInside : Gate → (piece : List ℕ) → Option ℕ → Seen → Tally → Seen → Tally → Type 0
PassInside gate piece result old before new after =
    (front : List Piece) (cut : List ℕ) (label : Label) → StandsIn gate front cut old before → ComesNext front label
    → EndsInside label.position (cut ++ piece) → InsideCases gate front cut piece (IsCheckedName label.position) result new after

pub record Passes (gate : Gate) (piece : List ℕ) (result : Option ℕ) (old : Seen) (before : Tally) (new : Seen) (after : Tally) : Type 0 where
  pub tells : PassTells gate piece result old before new after
  pub inside : PassInside gate piece result old before new after

-- After a step that took so many bytes of the piece, another one took some more of it, or none, or stopped within it: with
-- this result they are one step.
abbrev pub PassesOn : (piece : List ℕ) (used : ℕ) → Option ℕ → Seen → Tally → Seen → Tally → Type 0
PassesOn piece used result mid between new after =
    (gate : Gate) → IsGate gate → (old : Seen) (before : Tally) → Passes gate piece (Some used) old before mid between → Passes gate piece result old before new after

-- what came of a piece of this length
abbrev pub passed_of : Taken → ℕ → Passed
passed_of (taken.Ended count) n = passed.Took count
passed_of (taken.Stopped count) n = passed.Stopped
passed_of (taken.Part count) n = passed.Took count
passed_of taken.Open n = passed.Took n

-- how many bytes were taken, where the machine goes on
abbrev pub bytes_passed : Passed → Option ℕ
bytes_passed (passed.Took used) = Some used
bytes_passed passed.Stopped = None

-- it is no more than the piece has, and something
abbrev pub HasPassed : (piece : List ℕ) → Option ℕ → Type 0
HasPassed piece (Some used) = (0 < used) × (used ≤ length piece)
HasPassed piece None = Unit {0}

-- a token where no place begins, and which is not at the top: no count changes with it
abbrev pub IsQuiet : Phase → Type 0
IsQuiet phase.Top = ⊥
IsQuiet phase.Note = ⊥
IsQuiet phase.Value = ⊥
IsQuiet phase.SuperTag = ⊥
IsQuiet phase.Stopped = ⊥
IsQuiet _ = Unit {0}

-- all of the piece may be taken: it is within the limit of bytes
pub record CanPass (r : Seen) (piece : List ℕ) : Type 0 where
  pub within : IsWithin r piece piece
  pub all_bytes : IsBytes piece
