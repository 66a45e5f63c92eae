-- What is answered of bytes under a gate.
use Rattle.std.specs.Prelude.{ℕ, ◌≡◌, ◌≢◌, List, Result, Ok, Err}
use Rattle.jser_grammar.specs.Trees.{ContentTrees}
use Rattle.jser_verdict.specs.Reasons.{Reason as ToldReason}
use Rattle.jser_verdict.specs.Gates.{Gate}
use Rattle.jser_verdict.specs.Passing.{Passes}
use Rattle.jser_verdict.specs.FirstFault.{IsFirstFault}
use Rattle.jser_reader.specs.declared.Refusal.{Refusal}
use Rattle.jser_reader.specs.declared.Stop.{Stop}
use Rattle.jser_reader.specs.declared.Stop.TheVariants as stop
use Rattle.jser_reader.specs.declared.Totals.{Totals}
use Rattle.jser_reader.specs.Reasons.{named}
use Rattle.jser_reader.specs.Tallies.{AreTotals}

-- the refusal is the first fault of the bytes, and they are no stream that passes
pub record IsRefusal (gate : Gate) (bytes : List ℕ) (refusal : Refusal) : Type 0 where
  pub reason : ToldReason
  pub is_named : refusal.reason ≡ named reason
  pub is_first : IsFirstFault gate bytes refusal.from_byte refusal.to_byte reason
  pub none : (list : ContentTrees) → Passes gate bytes list → ⊥

-- the counts of a list that they spell and the gate lets pass, or that refusal, unless memory ran out
abbrev pub Answers : Gate → List ℕ → Result Totals Stop → Type 0
Answers gate bytes (Ok totals) = (list : ContentTrees) × Passes gate bytes list × AreTotals bytes list totals
Answers gate bytes (Err (stop.Refused refusal)) = IsRefusal gate bytes refusal
Answers gate bytes (Err stop.OutOfMemory) = Unit {0}
Answers gate bytes (Err stop.Spent) = ⊥

-- such an answer, where memory did not run out
abbrev pub IsAnswerOf : Gate → List ℕ → Result Totals Stop → Type 0
IsAnswerOf gate bytes answer = Answers gate bytes answer × (answer ≢ Err stop.OutOfMemory)
