-- What a filter admits where it is asked about every class name that stands at any place.
use Rattle.std.specs.Prelude.{◌≡◌, ◌≢◌, ℕ, Bool, true, false, List, Option, Some, None}
use Rattle.jser_table.specs.declared.layer.LayerKind.{LayerKind}
use Rattle.jser_table.specs.Names.{name_kind, malformed_name, view_kind}
use Rattle.jser_filter.specs.Filters.{FilterView}
use Rattle.jser_grammar.specs.Trees.{ContentTrees}
use Rattle.jser_verdict.specs.Gates.{Answer, is_pass}
use Rattle.jser_anywhere.specs.LoadableNames.{IsPlainName}
use Rattle.jser_anywhere.specs.Standing.{StandsAt}
use Rattle.jser_check.specs.declared.gate.Options.{Options}
use Rattle.jser_check.specs.Admitted.{IsAdmitted, gate_of_filter}

-- A name passes where the gate of the filter lets it pass, as it would a checked name; one that begins with `[` and is no
-- array name never does.
abbrev pub passes_as : Answer → Option LayerKind → Bool
passes_as answer None = false
passes_as answer (Some kind) = is_pass answer

abbrev pub passes_name : FilterView → Options → List ℕ → Bool
passes_name filter options name = passes_as ((gate_of_filter filter options).answer name) (view_kind (name_kind name))

-- what is asked: a filter, how it is applied, and whether about every class name that stands at any place
pub record Asked : Type 0 where
  pub filter : FilterView
  pub options : Options
  pub anywhere : Bool

abbrev pub asking : FilterView → Options → (anywhere : Bool) → Asked
asking filter options anywhere = record { filter = filter; options = options; anywhere = anywhere }

-- which of the names that stand at any place pass: all, where it is not asked about them
abbrev pub passes_by : (anywhere : Bool) → FilterView → Options → List ℕ → Bool
passes_by false filter options name = true
passes_by true filter options name = passes_name filter options name

abbrev pub passes_in : Asked → List ℕ → Bool
passes_in asked name = passes_by asked.anywhere asked.filter asked.options name

-- The bytes are a stream of this list which the filter admits, and each name that stands at any place of them passes.
pub record IsAdmittedBy (asked : Asked) (bytes : List ℕ) (list : ContentTrees) : Type 0 where
  pub admitted : IsAdmitted asked.filter asked.options bytes list
  pub names : (from to : ℕ) (units : List ℕ) → StandsAt bytes from to units → passes_in asked units ≡ true

-- some list is spelled by the bytes, and admitted so
abbrev pub AreAdmittedBy : Asked → List ℕ → Type 0
AreAdmittedBy asked bytes = (list : ContentTrees) × IsAdmittedBy asked bytes list

-- the filter admits the stream, and each name that stands at any place of it
abbrev pub IsAdmittedAnywhere : FilterView → Options → List ℕ → ContentTrees → Type 0
IsAdmittedAnywhere filter options bytes list = IsAdmittedBy (asking filter options true) bytes list

abbrev pub AreAdmittedAnywhere : FilterView → Options → List ℕ → Type 0
AreAdmittedAnywhere filter options bytes = AreAdmittedBy (asking filter options true) bytes

-- What is admitted anywhere is admitted.
abbrev pub AnywhereIsStronger : Type 0
AnywhereIsStronger = (filter : FilterView) (options : Options) (bytes : List ℕ) (list : ContentTrees) → IsAdmittedAnywhere filter options bytes list
    → IsAdmitted filter options bytes list

-- The class of a loadable name begins with no `[`: the gate judges each name that stands, by the class that it names.
abbrev pub NamesAreJudged : Type 0
NamesAreJudged = (units : List ℕ) → IsPlainName units → name_kind units ≢ malformed_name
