-- What the laws of filters say of one verdict.
use Rattle.std.proofs.Common.{◌≡◌, ◌≢◌, ◌==◌, ◌∙◌, sym, ℕ, List, [], ◌∷◌, ◌++◌, false}
use Rattle.std.specs.List.{list_any}
use Rattle.jser_filter.specs.declared.Verdict.{Verdict}
use Rattle.jser_filter.specs.declared.Verdict.TheVariants as verdict
use Rattle.jser_filter.specs.Laws.{verdict_with, NeedsNoTable, KeepsDecided}
use Rattle.jser_filter.specs.Tables.{ModuleTable}

pub for_each_table : (text name : List ℕ) (told : Verdict) → NeedsNoTable
    → told ≡ verdict_with text [] name → list_any (λ unit. unit == 0x2F) text ≡ false
    → (modules : ModuleTable) → told ≡ verdict_with text modules name
for_each_table text name told law is none modules = is ∙ law text [] modules name none

pub for_good : (text name : List ℕ) (told : Verdict) → KeepsDecided → told ≡ verdict_with text [] name
    → told ≢ verdict.Undecided → (more : List ℕ) → told ≡ verdict_with (text ++ 0x3B ∷ more) [] name
for_good text name told law is decided more = is ∙ sym (law text more [] name (λ none. decided (is ∙ none)))
