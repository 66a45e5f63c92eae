-- A check says yes exactly where the bytes are admitted anywhere.
use Rattle.std.proofs.Common.{◌≡◌, ◌↔◌, ℕ, true, false, List, drop, Option, Some, None, Result, Ok, Err, IfOk, IfSome, refl, sym, subst}
use Rattle.std.proofs.lemmas.List.{take-append-drop}
use Rattle.jser_filter.specs.Filters.{FilterView}
use Rattle.jser_anywhere.specs.Standing.{AllPass}
use Rattle.jser_reader.specs.declared.Reason.TheVariants as reason
use Rattle.jser_reader.specs.declared.Refusal.{Refusal}
use Rattle.jser_reader.specs.declared.Stop.TheVariants as stop
use Rattle.jser_reader.specs.declared.Totals.{Totals}
use Rattle.jser_check.specs.declared.Options.{Options}
use Rattle.jser_check.specs.Passing.{AreAdmittedAnywhere, asking, passes_name}
use Rattle.jser_check.specs.declared.AnywhereFault.{AnywhereFault}
use Rattle.jser_check.specs.declared.AnywhereFault.TheVariants as fault
use Rattle.jser_check.specs.Pieces.{ReportsAnywhere, EndTells}
use Rattle.jser_check.specs.Reads.{SourceTells}

pub yes_anywhere : (filter : FilterView) (options : Options) (told : Option (List ℕ)) (report : Totals) → SourceTells (asking filter options true) told (Ok report)
    → IfSome told (λ bytes. (true ≡ true) ↔ AreAdmittedAnywhere filter options bytes)
yes_anywhere filter options None report s = tt
yes_anywhere filter options (Some bytes) report s = (λ yes. (s.0, s.1), λ are. refl)

pub no_refused : (filter : FilterView) (options : Options) (told : Option (List ℕ)) (refusal : Refusal) → SourceTells (asking filter options true) told (Err (fault.Stop (stop.Refused refusal)))
    → IfSome told (λ bytes. (false ≡ true) ↔ AreAdmittedAnywhere filter options bytes)
no_refused filter options None refusal s = tt
no_refused filter options (Some bytes) refusal s = (λ no. absurd (let e : false ≡ true = no in cc), λ are. absurd (s.right.none (are.0, are.1.admitted)))

pub no_hidden : (filter : FilterView) (options : Options) (told : Option (List ℕ)) (from to : ℕ) → SourceTells (asking filter options true) told (Err (fault.Hidden from to))
    → IfSome told (λ bytes. (false ≡ true) ↔ AreAdmittedAnywhere filter options bytes)
no_hidden filter options None from to s = tt
no_hidden filter options (Some bytes) from to s = (
  λ no. absurd (let e : false ≡ true = no in cc),
  λ are. absurd (s.begins (drop to bytes) (subst (λ xs. AreAdmittedAnywhere filter options xs) (sym (take-append-drop to bytes)) are)),
)

pub cut_passes : (filter : FilterView) (options : Options) (told : Option (List ℕ)) (refusal : Refusal) → SourceTells (asking filter options true) told (Err (fault.Stop (stop.Refused refusal)))
    → refusal.reason ≡ reason.Truncated → IfSome told (λ bytes. AllPass (passes_name filter options) bytes)
cut_passes filter options None refusal s is = tt
cut_passes filter options (Some bytes) refusal s is = s.cut is

pub reports_end : (filter : FilterView) (options : Options) (taken : List ℕ) (result : Result Totals AnywhereFault) → EndTells (asking filter options true) taken result
    → IfOk result (ReportsAnywhere filter options taken)
reports_end filter options taken (Ok report) t = t
reports_end filter options taken (Err why) t = tt
