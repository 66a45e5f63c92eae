-- A reader alone, as what takes a stream.
use Rattle.std.proofs.Common.{ℕ, List, Result, Ok, Err}
use Rattle.jser_reader.specs.declared.Stop.{Stop}
use Rattle.jser_reader.specs.declared.Stop.TheVariants as stop
use Rattle.jser_reader.specs.declared.Totals.{Totals}
use Rattle.jser_reader.specs.declared.tally.Tally.{Tally}
use Rattle.jser_reader.specs.Answers.{PassesWith}
use Rattle.jser_reader.specs.Gates.{open_gate}
use Rattle.jser_reader.specs.Readers.{Seen}
use Rattle.jser_reader.specs.ReaderStates.{StandsFor, SkipTells, FinishTells}
use Rattle.jser_names.specs.Takers.{EndCases, TookCases}

pub skipped : (piece : List ℕ) (result : Result (Unit {0}) Stop) (old : Seen) (before : Tally) (new : Seen) (after : Tally) → SkipTells open_gate piece result old before new after
    → (taken : List ℕ) → StandsFor open_gate taken old before → TookCases (λ bytes. StandsFor open_gate bytes new after) taken piece result
unfolding SkipTells
skipped piece (Ok x) old before new after t taken st = t taken st
skipped piece (Err (stop.Refused refusal)) old before new after t taken st = let x = t taken st in (x.0, x.1, x.2)
skipped piece (Err stop.OutOfMemory) old before new after t taken st = tt
skipped piece (Err stop.Spent) old before new after t taken st = t taken st

pub ended : (result : Result Totals Stop) (old : Seen) (before : Tally) (new : Seen) → FinishTells open_gate result old before new
    → (taken : List ℕ) → StandsFor open_gate taken old before → EndCases (PassesWith open_gate) taken result
unfolding FinishTells
ended (Ok totals) old before new t taken st = (t taken st).0
ended (Err (stop.Refused refusal)) old before new t taken st = (t taken st).0
ended (Err stop.OutOfMemory) old before new t taken st = tt
ended (Err stop.Spent) old before new t taken st = t taken st
