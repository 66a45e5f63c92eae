-- What a reader tells of itself.
use Rattle.std.proofs.Common.{◌≡◌, ℕ, List, [], ◌++◌, length, Result, Err}
use Rattle.std.specs.Prelude.{◌≢◌}
use Rattle.jser_reading.specs.Labels.{Label, Piece}
use Rattle.jser_reading.specs.ComesNext.{ComesNext}
use Rattle.jser_verdict.specs.Gates.{Gate}
use Rattle.jser_reader.specs.declared.Refusal.{Refusal}
use Rattle.jser_reader.specs.declared.Step.{Step}
use Rattle.jser_reader.specs.declared.Stop.{Stop}
use Rattle.jser_reader.specs.declared.Stop.TheVariants as stop
use Rattle.jser_reader.specs.declared.tally.Tally.{Tally}
use Rattle.jser_reader.specs.Bounds.{AreAssigned, SkipMemoryFree}
use Rattle.jser_reader.specs.ItemsTold.{StandsIn, LentCases, TellsItems}
use Rattle.jser_reader.specs.Memory.{EndsInside, IsCheckedName}
use Rattle.jser_reader.specs.Readers.{Seen}
use Rattle.jser_reader.specs.ReaderStates.{HasRefused, IsSpent, StaysStopped}

pub assigned_here : (gate : Gate) (handles : ℕ) (r : Seen) (tally : Tally) → AreAssigned gate handles r tally
    → (front : List Piece) (cut : List ℕ) (label : Label) → StandsIn gate front cut r tally → ComesNext front label → length label.moment.table ≡ handles
unfolding AreAssigned
assigned_here gate handles r tally assigned = assigned

pub first_lent : (gate : Gate) (piece : List ℕ) (result : Result Step Stop) (old new : Seen) (before after : Tally) → StandsIn gate [] [] old before
    → TellsItems gate piece result old before new after → LentCases gate [] [] piece result new after
unfolding TellsItems
first_lent gate piece result old new before after st tells = tells [] [] st

pub stays_refused : {Z : Type 0} (result : Result Z Stop) (old new : Seen) → StaysStopped result old new → (refusal : Refusal) → HasRefused refusal old → result ≡ Err (stop.Refused refusal)
unfolding StaysStopped
stays_refused result old new stays = λ refusal refused. (stays.0 refusal refused).0

pub stays_spent : {Z : Type 0} (result : Result Z Stop) (old new : Seen) → StaysStopped result old new → IsSpent old → result ≡ Err stop.Spent
unfolding StaysStopped
stays_spent result old new stays = λ spent. (stays.1 spent).0

pub skips_free : (gate : Gate) (piece : List ℕ) (result : Result (Unit {0}) Stop) (r : Seen) (tally : Tally) → SkipMemoryFree gate piece result r tally
    → (front : List Piece) (cut : List ℕ) (label : Label) → StandsIn gate front cut r tally → ComesNext front label → (IsCheckedName label.position → ⊥)
    → EndsInside label.position (cut ++ piece) → result ≢ Err stop.OutOfMemory
unfolding SkipMemoryFree
skips_free gate piece result r tally free = free
