-- What a check of bytes under a gate answers, by what a reader tells of them from the first to `finish`.
use Rattle.std.specs.Prelude.{◌≡◌, ◌⊎◌, ℕ, ◌≤◌, List, length, take, Result, Ok, Err}
use Rattle.jser_grammar.specs.Trees.{ContentTrees}
use Rattle.jser_verdict.specs.Reasons.{Reason as ToldReason}
use Rattle.jser_verdict.specs.Gates.{Gate}
use Rattle.jser_verdict.specs.Passing.{Passes}
use Rattle.jser_verdict.specs.FirstFault.{IsFirstFault}
use Rattle.jser_reader.specs.declared.refusal.Refusal.{Refusal}
use Rattle.jser_reader.specs.declared.refusal.Stop.{Stop}
use Rattle.jser_reader.specs.declared.refusal.Stop.TheVariants as stop
use Rattle.jser_reader.specs.declared.item.Totals.{Totals}
use Rattle.jser_reader.specs.Reasons.{named}
use Rattle.jser_reader.specs.Tallies.{AreTotals}
use Rattle.jser_reader.specs.Streams.{AreRefused, AreTruncated}

-- the first `to_byte` bytes are refused, whatever comes after them
pub record FrontRefused (gate : Gate) (bytes : List ℕ) (refusal : Refusal) : Type 0 where
  pub within : refusal.to_byte ≤ length bytes
  pub refused : AreRefused gate (take refusal.to_byte bytes) refusal

-- the refusal is right of the bytes: the first of them are refused, or all of them end too early
abbrev pub IsRightOf : Gate → List ℕ → Refusal → Type 0
IsRightOf gate bytes refusal = FrontRefused gate bytes refusal ⊎ AreTruncated gate bytes refusal

-- the refusal names the first fault of the bytes
pub record CarriesFirst (gate : Gate) (bytes : List ℕ) (refusal : Refusal) : Type 0 where
  pub reason : ToldReason
  pub is_named : refusal.reason ≡ named reason
  pub is_first : IsFirstFault gate bytes refusal.from_byte refusal.to_byte reason

-- what holds of the refusal, where that is why a check stopped; it is never spent
abbrev pub IfRefused : (Refusal → Type 0) → Stop → Type 0
IfRefused P (stop.Refused refusal) = P refusal
IfRefused P stop.OutOfMemory = Unit {0}
IfRefused P stop.Spent = ⊥

-- some list makes the bytes a stream which passes, and these are its counts
abbrev pub PassesWith : Gate → List ℕ → Totals → Type 0
PassesWith gate bytes totals = (list : ContentTrees) × Passes gate bytes list × AreTotals bytes list totals

-- what a check answers of bytes under a gate: that some list makes them a stream which passes, or a refusal
abbrev pub Tells : Gate → List ℕ → Result Totals Stop → Type 0
Tells gate bytes (Ok totals) = PassesWith gate bytes totals
Tells gate bytes (Err (stop.Refused refusal)) = IsRightOf gate bytes refusal
Tells gate bytes (Err stop.OutOfMemory) = Unit {0}
Tells gate bytes (Err stop.Spent) = ⊥
