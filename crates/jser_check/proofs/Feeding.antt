-- What it does to a reader to be given bytes. `told` is what a gate is, as the definitions see it.
use Rattle.std.specs.Prelude.{◌≡◌, ◌≢◌, ℕ, ◌<◌, ◌≤◌, List, [], ◌++◌, length, take, Result, Ok, Err}
use Rattle.jser_verdict.specs.Gates.{Gate}
use Rattle.jser_reader.specs.declared.Reason.TheVariants as reason
use Rattle.jser_reader.specs.declared.Refusal.{Refusal}
use Rattle.jser_reader.specs.declared.Stop.{Stop}
use Rattle.jser_reader.specs.declared.Stop.TheVariants as stop
use Rattle.jser_reader.specs.declared.Totals.{Totals}
use Rattle.jser_reader.specs.declared.tally.Tally.{Tally}
use Rattle.jser_reader.specs.Readers.{Seen}
use Rattle.jser_reader.specs.ReaderStates.{Reading, StandsFor}
use Rattle.jser_reader.specs.Streams.{AreRefused}
use Rattle.jser_reader.specs.Answers.{Tells}

-- it took the front of these bytes, up to the rest, and has not stopped
pub record Fed {G : Type 0} (told : G → Gate) (old new : Reading G) (bytes rest : List ℕ) : Type 0 where
  pub front : List ℕ
  pub split : bytes ≡ front ++ rest
  pub same : new.gate ≡ old.gate
  pub stands : (before : List ℕ) → StandsFor (told old.gate) before old.machine old.tally → StandsFor (told old.gate) (before ++ front) new.machine new.tally

-- it refused the bytes up to one of these, after those that it took before
pub record RefusesIn (gate : Gate) (before bytes : List ℕ) (refusal : Refusal) : Type 0 where
  pub used : ℕ
  pub some : 0 < used
  pub within : used ≤ length bytes
  pub refused : AreRefused gate (before ++ take used bytes) refusal

abbrev pub StopCases : Gate → (before bytes : List ℕ) → Stop → Type 0
StopCases gate before bytes (stop.Refused refusal) = RefusesIn gate before bytes refusal
StopCases gate before bytes stop.OutOfMemory = Unit {0}
StopCases gate before bytes stop.Spent = ⊥

-- it stopped at one of these bytes, if it had not before
unfoldable pub StopsIn : {G : Type 0} → (G → Gate) → (old new : Reading G) → (bytes : List ℕ) → Stop → Type 0
StopsIn told old new bytes stop =
    (before : List ℕ) → StandsFor (told old.gate) before old.machine old.tally → StopCases (told old.gate) before bytes stop

-- it took the whole piece, or stopped in it
abbrev pub FeedTells : {G : Type 0} → (G → Gate) → (old new : Reading G) → (piece : List ℕ) → Result (Unit {0}) Stop → Type 0
FeedTells told old new piece (Ok _) = Fed told old new piece []
FeedTells told old new piece (Err why) = StopsIn told old new piece why

-- What it answers at the end of the bytes that it took. It never runs out of memory there, and refuses nothing but that
-- they end too early.
pub record Ends (gate : Gate) (taken : List ℕ) (result : Result Totals Stop) (new : Seen) : Type 0 where
  pub tells : Tells gate taken result
  pub sure : result ≢ Err stop.OutOfMemory
  pub cut : (refusal : Refusal) → result ≡ Err (stop.Refused refusal) → refusal.reason ≡ reason.Truncated

unfoldable pub EndTells : Gate → Result Totals Stop → Seen → Tally → Seen → Type 0
EndTells gate result old tally new = (taken : List ℕ) → StandsFor gate taken old tally → Ends gate taken result new
