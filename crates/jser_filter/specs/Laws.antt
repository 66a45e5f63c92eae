-- What an operator may rely on when he writes or extends a filter's text.
use Rattle.std.specs.Prelude.{ℕ, ◌≡◌, ◌≢◌, ◌==◌, false, List, ◌∷◌, ◌++◌}
use Rattle.std.specs.List.{list_any}
use Rattle.jser_filter.specs.declared.verdict.Verdict.{Verdict}
use Rattle.jser_filter.specs.declared.verdict.Verdict.TheVariants as verdict
use Rattle.jser_filter.specs.Tables.{ModuleTable}
use Rattle.jser_filter.specs.Pieces.{pieces_of}
use Rattle.jser_filter.specs.Filters.{verdict_of}

-- the verdict of a text, with a table of modules, on a name
abbrev pub verdict_with : List ℕ → ModuleTable → List ℕ → Verdict
verdict_with text modules name = verdict_of record { pieces = pieces_of text; modules = modules } name

-- a text without `/` has the same verdicts with every table of modules
abbrev pub NeedsNoTable : Type 0
NeedsNoTable =
    (text : List ℕ) (one other : ModuleTable) (name : List ℕ) → list_any (λ unit. unit == 0x2F) text ≡ false
    → verdict_with text one name ≡ verdict_with text other name

-- a name that a text decides is decided in the same way with more pieces after it
abbrev pub KeepsDecided : Type 0
KeepsDecided =
    (text more : List ℕ) (modules : ModuleTable) (name : List ℕ) → verdict_with text modules name ≢ verdict.Undecided
    → verdict_with (text ++ 0x3B ∷ more) modules name ≡ verdict_with text modules name
