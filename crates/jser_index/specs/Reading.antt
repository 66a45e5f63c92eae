-- The first walk along the bytes of a stream: where it stands, and what it has found at the end.
use Rattle.std.specs.Prelude.{ℕ, ◌≡◌, List, Result, Ok, Err}
use Rattle.jser_grammar.specs.Trees.{ContentTrees}
use Rattle.jser_grammar.specs.CheckedNames.{checked_names}
use Rattle.jser_shown.specs.Nodes.{nodes_of}
use Rattle.jser_shown.specs.Owners.{owners_of}
use Rattle.jser_shown.specs.Finding.{Finding, nodes_found}
use Rattle.jser_verdict.specs.Passing.{Passes}
use Rattle.jser_reader.specs.Gates.{open_gate}
use Rattle.jser_reader.specs.declared.Refusal.{Refusal}
use Rattle.jser_reader.specs.declared.Stop.{Stop}
use Rattle.jser_reader.specs.declared.Stop.TheVariants as stop
use Rattle.jser_reader.specs.declared.Totals.{Totals}
use Rattle.jser_reader.specs.declared.tally.Tally.{Tally}
use Rattle.jser_reader.specs.Readers.{Seen}
use Rattle.jser_reader.specs.Answers.{IsRightOf}
use Rattle.jser_reader.specs.Tallies.{AreTotals}
use Rattle.jser_index.specs.declared.read.Found.{Found}
use Rattle.jser_index.specs.Along.{GoesAlong}
use Rattle.jser_index.specs.Surveying.{IsAt}

-- so far along the bytes, with a survey of the tokens
abbrev pub SurveysAlong : (bytes rest : List ℕ) → Seen → Tally → Finding → Type 0
SurveysAlong bytes rest r tally survey = GoesAlong open_gate bytes rest r tally (λ front. IsAt front survey)

-- The bytes are a stream of this list that passes, and what was found is that of the list.
pub record IsOfList (bytes : List ℕ) (survey : Finding) (totals : Totals) (list : ContentTrees) : Type 0 where
  pub passes : Passes open_gate bytes list
  pub totals_are : AreTotals bytes list totals
  pub nodes : nodes_found survey ≡ nodes_of list
  pub owners : survey.owners ≡ owners_of list
  pub names : survey.names ≡ checked_names list

-- the refusal is right of the bytes under the greatest limits, and names their first fault
abbrev pub IsRefused : List ℕ → Refusal → Type 0
IsRefused bytes refusal = IsRightOf open_gate bytes refusal

unfoldable pub Walks : List ℕ → Finding → Result Totals Stop → Type 0
Walks bytes survey (Ok totals) = (list : ContentTrees) × IsOfList bytes survey totals list
Walks bytes survey (Err (stop.Refused refusal)) = IsRefused bytes refusal
Walks bytes survey (Err stop.OutOfMemory) = Unit {0}
Walks bytes survey (Err stop.Spent) = ⊥

-- what is handed out of the walk
abbrev pub FoundCases : List ℕ → Result Found Stop → Type 0
FoundCases bytes (Ok found) = (list : ContentTrees) × IsOfList bytes found.survey found.totals list
FoundCases bytes (Err (stop.Refused refusal)) = IsRefused bytes refusal
FoundCases bytes (Err stop.OutOfMemory) = Unit {0}
FoundCases bytes (Err stop.Spent) = ⊥

unfoldable pub Surveys : List ℕ → Result Found Stop → Type 0
Surveys bytes result = FoundCases bytes result
