-- What was printed says what was found.
use Rattle.std.proofs.Common.{◌≡◌, ◌≤◌, List, ℕ, length, take, Bool, true, Some, None, Result, Ok, Err, refl, subst, inl, inr}
use Rattle.std.specs.Prelude.{◌⊎◌, IfSome, IfOk, IsOkAnd}
use Rattle.std.specs.declared.option.Option.{Option}
use Rattle.std.specs.Io.KnownBytes.{Appends, Keeps}
use Rattle.jser_grammar.specs.Parts.{IsBytes}
use Rattle.jser_reader.specs.declared.Refusal.{Refusal}
use Rattle.jser_filter.specs.Filters.{FilterView}
use Rattle.jser_check.specs.declared.Options.{Options}
use Rattle.jser_check.specs.declared.Report.{Totals as Report}
use Rattle.jser_check.specs.Admitted.{gate_of_filter}
use Rattle.jser_check.specs.Answers.{Reports, Refuses, CarriesFirst}
use Rattle.jser_reader.specs.declared.Stop.TheVariants as stop
use Rattle.jser_check.specs.declared.AnywhereFault.TheVariants as fault
use Rattle.jser_check.specs.Passing.{asking}
use Rattle.jser_check.specs.Reads.{SourceTells}
use Rattle.jser_commands.specs.Lines.{yes_line, no_line, hidden_line, AppendsSome, SaysYes, SaysNo, SaysYesAnywhere, SaysNoAnywhere, KeptOrCut, KeptOrSaidSome}

-- a device that was not used
pub kept : (old : Option (List ℕ)) → Keeps old old
kept None = tt
kept (Some out) = refl

pub says_yes : (filter : FilterView) (options : Options) (told : Option (List ℕ)) (report : Report) (Went : List ℕ → Type 0)
    → IfSome told (λ bytes. Reports filter options bytes report) → Went (yes_line report) → IfSome told (λ bytes. SaysYes filter options bytes Went)
says_yes filter options None report Went r p = tt
says_yes filter options (Some bytes) report Went r p = record { report = report; reported = r; printed = p }

pub says_no : (filter : FilterView) (options : Options) (told : Option (List ℕ)) (refusal : Refusal) (Went : List ℕ → Type 0)
    → IfSome told (λ bytes. Refuses filter options bytes refusal)
    → IfSome told (λ bytes. IsBytes bytes → CarriesFirst (gate_of_filter filter options) bytes refusal) → Went (no_line refusal)
    → IfSome told (λ bytes. SaysNo filter options bytes Went)
says_no filter options None refusal Went r f p = tt
says_no filter options (Some bytes) refusal Went r f p = record { refusal = refusal; refused = r; first = f; printed = p }

-- ---- where the output failed

pub appends_some : (old new : Option (List ℕ)) (text : List ℕ) (count : ℕ) → count ≤ length text → Appends old new (take count text) → AppendsSome old new text
appends_some old new text count within went = record { count = count; within = within; went = went }

-- of a line for which there may be no memory
pub line_cut : {X E : Type 0} (line : Result X E) (bytes_of : X → List ℕ) (text : List ℕ) (failed : Bool) (old new : Option (List ℕ))
    → IfOk line (λ x. bytes_of x ≡ text) → Keeps old new ⊎ ((failed ≡ true) × IsOkAnd line (λ x. AppendsSome old new (bytes_of x)))
    → KeptOrCut failed old new text
line_cut line bytes_of text failed old new is (inl kept) = inl kept
line_cut (Ok x) bytes_of text failed old new is (inr some) = inr (some.0, subst (AppendsSome old new) is some.1)
line_cut (Err e) bytes_of text failed old new is (inr some) = absurd some.1

-- of the answer of which it is the line
pub yes_cut : (failed : Bool) (old new told : Option (List ℕ)) (text : List ℕ) (Yes No : List ℕ → (List ℕ → Type 0) → Type 0)
    → (AppendsSome old new text → IfSome told (λ bytes. Yes bytes (AppendsSome old new))) → KeptOrCut failed old new text
    → KeptOrSaidSome failed old new told Yes No
yes_cut failed old new told text Yes No says (inl kept) = inl kept
yes_cut failed old new None text Yes No says (inr some) = inr (some.0, tt)
yes_cut failed old new (Some bytes) text Yes No says (inr some) = inr (some.0, inl (says some.1))

pub no_cut : (failed : Bool) (old new told : Option (List ℕ)) (text : List ℕ) (Yes No : List ℕ → (List ℕ → Type 0) → Type 0)
    → (AppendsSome old new text → IfSome told (λ bytes. No bytes (AppendsSome old new))) → KeptOrCut failed old new text
    → KeptOrSaidSome failed old new told Yes No
no_cut failed old new told text Yes No says (inl kept) = inl kept
no_cut failed old new None text Yes No says (inr some) = inr (some.0, tt)
no_cut failed old new (Some bytes) text Yes No says (inr some) = inr (some.0, inr (says some.1))

-- ---- of a check with each name that can be read

pub says_yes_anywhere : (filter : FilterView) (options : Options) (told : Option (List ℕ)) (report : Report) (Went : List ℕ → Type 0)
    → SourceTells (asking filter options true) told (Ok report) → Went (yes_line report) → IfSome told (λ bytes. SaysYesAnywhere filter options bytes Went)
says_yes_anywhere filter options None report Went r p = tt
says_yes_anywhere filter options (Some bytes) report Went r p = record { report = report; reported = r; printed = p }

pub says_no_anywhere : (filter : FilterView) (options : Options) (told : Option (List ℕ)) (refusal : Refusal) (Went : List ℕ → Type 0)
    → SourceTells (asking filter options true) told (Err (fault.Stop (stop.Refused refusal))) → Went (no_line refusal) → IfSome told (λ bytes. SaysNoAnywhere filter options bytes Went)
says_no_anywhere filter options None refusal Went r p = tt
says_no_anywhere filter options (Some bytes) refusal Went r p = inl (record { refusal = refusal; refused = r; printed = p })

pub says_hidden : (filter : FilterView) (options : Options) (told : Option (List ℕ)) (from to : ℕ) (Went : List ℕ → Type 0)
    → SourceTells (asking filter options true) told (Err (fault.Hidden from to)) → Went (hidden_line from to) → IfSome told (λ bytes. SaysNoAnywhere filter options bytes Went)
says_hidden filter options None from to Went r p = tt
says_hidden filter options (Some bytes) from to Went r p = inr (record { from = from; to = to; hidden = r; printed = p })
