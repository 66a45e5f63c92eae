-- What a reader under the gate of a filter accepts, the filter admits.
use Rattle.std.proofs.Common.{◌≡◌, ℕ, List, [], Result, Ok, Err, IfOk, subst}
use Rattle.std.specs.Prelude.{◌↔◌}
use Rattle.jser_grammar.specs.Trees.{ContentTrees}
use Rattle.jser_verdict.specs.Gates.{Gate}
use Rattle.jser_verdict.specs.Passing.{Passes}
use Rattle.jser_reader.specs.declared.Stop.{Stop}
use Rattle.jser_reader.specs.declared.Totals.{Totals}
use Rattle.jser_reader.specs.declared.tally.Tally.{Tally}
use Rattle.jser_reader.specs.Readers.{Seen}
use Rattle.jser_reader.specs.ReaderStates.{StandsFor, SkipCases, SkipTells, FinishCases, FinishTells}
use Rattle.jser_reader.specs.Answers.{PassesWith}
use Rattle.jser_filter.specs.Filters.{FilterView}
use Rattle.jser_check.specs.declared.Options.{Options}
use Rattle.jser_check.specs.Admitted.{FilterWith, IsAdmitted, gate_of_filter}
use Rattle.jser_check.specs.Answers.{Reports}

pub reads_passing : (gate : Gate) (bytes : List ℕ) (skipped : Result (Unit {0}) Stop) (result : Result Totals Stop) (old mid new : Seen) (before after : Tally)
    → StandsFor gate [] old before → SkipTells gate bytes skipped old before mid after → skipped ≡ Ok tt → FinishTells gate result mid after new
    → IfOk result (PassesWith gate bytes)
unfolding SkipTells FinishTells
reads_passing gate bytes skipped result old mid new before after st skips is ends =
    by result (ends bytes (subst (λ r. SkipCases gate [] bytes r mid after) is (skips [] st)))
  where
    by : (result : Result Totals Stop) → FinishCases gate bytes result new → IfOk result (PassesWith gate bytes)
    by (Ok totals) c = c.0
    by (Err why) c = tt

pub admits_passing : (gate : FilterWith) (filter : FilterView) (options : Options) (bytes : List ℕ) (result : Result Totals Stop)
    → gate.filter ≡ filter → gate.options ≡ options
    → ((bytes : List ℕ) (list : ContentTrees) → IsAdmitted filter options bytes list ↔ Passes (gate_of_filter filter options) bytes list)
    → IfOk result (PassesWith (gate_of_filter gate.filter gate.options) bytes) → IfOk result (Reports filter options bytes)
admits_passing gate filter options bytes (Ok totals) f o exact passes =
    let p = subst (λ x. PassesWith (gate_of_filter filter x) bytes totals) o (subst (λ x. PassesWith (gate_of_filter x gate.options) bytes totals) f passes) in
    (p.0, (exact bytes p.0).1 p.1, p.2)
admits_passing gate filter options bytes (Err why) f o exact passes = tt
