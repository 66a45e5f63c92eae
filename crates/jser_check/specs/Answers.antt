-- What the answers of a check mean.
use Rattle.std.specs.Prelude.{◌≡◌, ◌≢◌, ℕ, ◌≤◌, List, ◌++◌, length, take}
use Rattle.jser_grammar.specs.Trees.{ContentTrees}
use Rattle.jser_verdict.specs.Reasons.{truncated}
use Rattle.jser_verdict.specs.Reasons.{Reason as ToldReason}
use Rattle.jser_verdict.specs.Gates.{Gate}
use Rattle.jser_verdict.specs.FirstFault.{IsFault}
use Rattle.jser_reader.specs.declared.Reason.TheVariants as reason
use Rattle.jser_reader.specs.declared.Refusal.{Refusal}
use Rattle.jser_reader.specs.declared.Totals.{Totals}
use Rattle.jser_reader.specs.Tallies.{AreTotals}
use Rattle.jser_reader.specs.Streams.{AreRefused, AreTruncated}
pub use Rattle.jser_reader.specs.Answers.{CarriesFirst, IfRefused}
use Rattle.jser_filter.specs.Filters.{FilterView}
use Rattle.jser_check.specs.declared.gate.Options.{Options}
use Rattle.jser_check.specs.Admitted.{IsAdmitted, AreAdmitted, gate_of_filter}

-- some list is spelled by the bytes and admitted, and the report has its counts
abbrev pub Reports : FilterView → Options → List ℕ → Totals → Type 0
Reports filter options bytes report = (list : ContentTrees) × IsAdmitted filter options bytes list × AreTotals bytes list report

-- the bytes decide no refusal: they hold no fault but that they end
abbrev pub DecideNothing : Gate → List ℕ → Type 0
DecideNothing gate bytes = (at end : ℕ) (reason : ToldReason) → IsFault gate bytes at end reason → reason ≡ truncated

-- The refusal is right of the bytes: the filter admits no stream that they spell, and none that begins with the first
-- `to_byte` of them, which decide, whatever comes after them. Truncated speaks of all the bytes.
pub record Refuses (filter : FilterView) (options : Options) (bytes : List ℕ) (refusal : Refusal) : Type 0 where
  pub none : AreAdmitted filter options bytes → ⊥
  pub begins : refusal.reason ≢ reason.Truncated → (after : List ℕ) → AreAdmitted filter options (take refusal.to_byte bytes ++ after) → ⊥
  pub front : refusal.reason ≢ reason.Truncated → AreRefused (gate_of_filter filter options) (take refusal.to_byte bytes) refusal
  pub cut : refusal.reason ≡ reason.Truncated → AreTruncated (gate_of_filter filter options) bytes refusal
  pub ordered : refusal.from_byte ≤ refusal.to_byte
  pub within : refusal.to_byte ≤ length bytes
