-- What a reader's calls say of its stack, of handles and of memory, by the label of the token that is open or comes next, which whole
-- streams alone tell.
use Rattle.std.specs.Prelude.{ℕ, ◌≡◌, ◌≢◌, ◌+◌, ◌≤◌, List, ◌++◌, length, Result, Err}
use Rattle.jser_reading.specs.Labels.{Label, Piece}
use Rattle.jser_reading.specs.ComesNext.{ComesNext}
use Rattle.jser_verdict.specs.Gates.{Gate}
use Rattle.jser_reader.specs.declared.item.Step.{Step}
use Rattle.jser_reader.specs.declared.refusal.Stop.{Stop}
use Rattle.jser_reader.specs.declared.refusal.Stop.TheVariants as stop
use Rattle.jser_reader.specs.declared.tally.Tally.{Tally}
use Rattle.jser_reader.specs.Stacks.{FitsDepth}
use Rattle.jser_reader.specs.Memory.{IsCheckedName, IsForgotten, EndsInside}
use Rattle.jser_reader.specs.Readers.{Seen}
use Rattle.jser_reader.specs.ItemsTold.{StandsIn}

-- So many frames are open: as many as the token that is open or comes next is deep, or one fewer; and its depth is at most
-- one more than the gate's limit.
unfoldable pub FramesAreBounded : Gate → (frames : ℕ) → Seen → Tally → Type 0
FramesAreBounded gate frames r tally =
    (front : List Piece) (cut : List ℕ) → StandsIn gate front cut r tally
    → (label : Label) × ComesNext front label × FitsDepth frames label.depth × (label.depth ≤ gate.depth + 1)

-- So many handles of the epoch are assigned before the token that is open or comes next.
unfoldable pub AreAssigned : Gate → (handles : ℕ) → Seen → Tally → Type 0
AreAssigned gate handles r tally =
    (front : List Piece) (cut : List ℕ) (label : Label) → StandsIn gate front cut r tally → ComesNext front label → length label.moment.table ≡ handles

-- A call that is given a piece, in a token with this label of which these bytes were taken before, does not run out of
-- memory: where nothing of the token is kept; and where the piece ends inside the token, which is no checked name.
pub record MemoryFreeAt (label : Label) (cut piece : List ℕ) (result : Result Step Stop) : Type 0 where
  pub forgotten : IsForgotten label.position → result ≢ Err stop.OutOfMemory
  pub inside : (IsCheckedName label.position → ⊥) → EndsInside label.position (cut ++ piece) → result ≢ Err stop.OutOfMemory

unfoldable pub MemoryFree : Gate → (piece : List ℕ) → Result Step Stop → Seen → Tally → Type 0
MemoryFree gate piece result r tally =
    (front : List Piece) (cut : List ℕ) (label : Label) → StandsIn gate front cut r tally → ComesNext front label → MemoryFreeAt label cut piece result

-- Where a call that takes a whole piece needs no memory: where it ends inside the token in which it begins, which is no checked name.
unfoldable pub SkipMemoryFree : Gate → (piece : List ℕ) → Result (Unit {0}) Stop → Seen → Tally → Type 0
SkipMemoryFree gate piece result r tally =
    (front : List Piece) (cut : List ℕ) (label : Label) → StandsIn gate front cut r tally → ComesNext front label
    → (IsCheckedName label.position → ⊥) → EndsInside label.position (cut ++ piece) → result ≢ Err stop.OutOfMemory
