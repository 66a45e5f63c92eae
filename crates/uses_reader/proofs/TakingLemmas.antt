-- What a caller knows while a reader takes a stream.
use Rattle.std.proofs.Common.{ℕ, ◌≤◌, ◌+◌, List, ◌++◌, Result, Ok, Err, OnOk, arith}
use Rattle.std.specs.Prelude.{◌≢◌}
use Rattle.jser_reading.specs.Labels.{Label, Piece}
use Rattle.jser_reading.specs.ComesNext.{ComesNext}
use Rattle.jser_reading.specs.Machine.{begin_state, left}
use Rattle.jser_verdict.specs.Gates.{Gate}
use Rattle.jser_verdict.specs.FaultLaws.{RefusesPromptly}
use Rattle.jser_reader.specs.declared.Step.{Step}
use Rattle.jser_reader.specs.declared.Stop.{Stop}
use Rattle.jser_reader.specs.declared.Stop.TheVariants as stop
use Rattle.jser_reader.specs.declared.tally.Tally.{Tally}
use Rattle.jser_reader.specs.Bounds.{FramesAreBounded, MemoryFree}
use Rattle.jser_reader.specs.TokenLaws.{BytesAreTokens}
use Rattle.jser_reader.specs.ItemsTold.{StandsIn}
use Rattle.jser_reader.specs.Memory.{IsForgotten}
use Rattle.jser_reader.specs.Readers.{Seen}
use Rattle.jser_reader.specs.ReaderStates.{StandsFor, SkipTells}
use Rattle.uses_reader.specs.Taking.{HoldsNoFault}

pub no_fault : RefusesPromptly → (gate : Gate) (piece : List ℕ) (result : Result (Unit {0}) Stop) (old new : Seen) (before after : Tally)
    → SkipTells gate piece result old before new after → OnOk result (HoldsNoFault gate piece old before)
unfolding SkipTells HoldsNoFault StandsFor
no_fault law gate piece (Ok _) old new before after tells = λ bytes st at end reason f.
    let s = tells bytes st in
    law gate (bytes ++ piece) s.0.taken.cut (left begin_state s.0.taken.tokens) s.0.taken.all_bytes s.1 s.0.taken.walked at end reason f
no_fault law gate piece (Err why) old new before after tells = tt

pub few_frames : BytesAreTokens → (gate : Gate) (frames : ℕ) (r : Seen) (tally : Tally) → FramesAreBounded gate frames r tally
    → (bytes : List ℕ) → StandsFor gate bytes r tally → frames ≤ gate.depth + 1
unfolding FramesAreBounded
few_frames law gate frames r tally bounded bytes st =
    let tokens = (law gate bytes r tally).0 st in
    let b = bounded tokens.0 tokens.1 tokens.3 in
    let most = b.2.most in
    let deep = b.3 in
    omega arith

pub takes_none : (gate : Gate) (piece : List ℕ) (result : Result Step Stop) (r : Seen) (tally : Tally) → MemoryFree gate piece result r tally
    → (front : List Piece) (cut : List ℕ) (label : Label) → StandsIn gate front cut r tally → ComesNext front label → IsForgotten label.position
    → result ≢ Err stop.OutOfMemory
unfolding MemoryFree
takes_none gate piece result r tally free front cut label st comes forgotten = (free front cut label st comes).forgotten forgotten
