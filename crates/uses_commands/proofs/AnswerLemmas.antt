-- What a status says, in words of the list.
use Rattle.std.proofs.Common.{◌≡◌, ℕ, Bool, true, false, List, length, drop, Option, Some, None, subst, sym, ap, ◌∙◌, inl, inr, take-append-drop}
use Rattle.std.specs.Prelude.{IfSome, ◌++◌, ◌≢◌, ◌⊎◌, codes}
use Rattle.std.specs.Fmt.{decimal}
use Rattle.std.specs.Io.KnownBytes.{Appends, Keeps}
use Rattle.jser_grammar.specs.Trees.{ContentTrees}
use Rattle.jser_grammar.specs.Counts.{content_count, refs_of}
use Rattle.jser_reading.specs.ByteLaws.{OneReading}
use Rattle.jser_reader.specs.Tallies.{AreTotals}
use Rattle.jser_reader.specs.declared.Totals.{Totals}
use Rattle.jser_shown.specs.Shown.{shown}
use Rattle.jser_shown.specs.Listed.{listed}
use Rattle.jser_filter.specs.Filters.{FilterView}
use Rattle.jser_check.specs.declared.Options.{Options}
use Rattle.jser_check.specs.Passing.{AreAdmittedAnywhere}
use Rattle.jser_commands.specs.Lines.{yes_line, listed_anywhere, words_on, options_of, HasLimit, SaysNoAnywhere, SaysAccepted, SaysCut, SaysFailed, SaysRefused}
use Rattle.jser_commands.specs.declared.Job.{Job}
use Rattle.jser_commands.specs.declared.Job.TheVariants as job
use Rattle.uses_commands.specs.Answers.{line_of_list, EachListPrints, IsNo, IsYes, PrintsLimited, PrintsNothing}

line_is : (bytes : List ℕ) (list : ContentTrees) (report : Totals) → AreTotals bytes list report → yes_line report ≡ line_of_list bytes list
line_is bytes list report is =
    ap (λ n. codes "yes " ++ decimal n ++ codes " bytes, " ++ decimal report.contents ++ codes " contents, " ++ decimal report.refs ++ codes " refs, depth " ++ decimal report.depth ++ codes "\n") is.all_bytes
    ∙ ap (λ n. codes "yes " ++ decimal (length bytes) ++ codes " bytes, " ++ decimal n ++ codes " contents, " ++ decimal report.refs ++ codes " refs, depth " ++ decimal report.depth ++ codes "\n") is.contents
    ∙ ap (λ n. codes "yes " ++ decimal (length bytes) ++ codes " bytes, " ++ decimal (content_count list) ++ codes " contents, " ++ decimal n ++ codes " refs, depth " ++ decimal report.depth ++ codes "\n") is.refs
    ∙ ap (λ n. codes "yes " ++ decimal (length bytes) ++ codes " bytes, " ++ decimal (content_count list) ++ codes " contents, " ++ decimal (refs_of list) ++ codes " refs, depth " ++ decimal n ++ codes "\n") is.depth

pub yes_accepted : (the_job : Job) (told old new : Option (List ℕ)) → IfSome told (λ bytes. SaysAccepted the_job bytes (Appends old new)) → IfSome told (IsYes the_job)
yes_accepted the_job None old new says = tt
yes_accepted (job.Check filter strict) (Some bytes) old new says = (says.reported.0, says.reported.1)
yes_accepted (job.CheckAnywhere filter strict) (Some bytes) old new says = (says.reported.0, says.reported.1)
yes_accepted (job.Show values) (Some bytes) old new says = (says.list, says.passes.0)
yes_accepted (job.ShowLimited values limit) (Some bytes) old new says = (says.list, says.passes.0)
yes_accepted (job.List filter) (Some bytes) old new says = (says.list, says.passes.0)
yes_accepted (job.ListAnywhere filter) (Some bytes) old new says = (says.list, says.passes.0)

yes_cut : (the_job : Job) (told old new : Option (List ℕ)) → IfSome told (λ bytes. SaysCut the_job bytes (Appends old new)) → IfSome told (IsYes the_job)
yes_cut the_job None old new says = tt
yes_cut (job.Check filter strict) (Some bytes) old new says = absurd says
yes_cut (job.CheckAnywhere filter strict) (Some bytes) old new says = absurd says
yes_cut (job.Show values) (Some bytes) old new says = absurd says
yes_cut (job.ShowLimited values limit) (Some bytes) old new says = (says.list, says.passes.0)
yes_cut (job.List filter) (Some bytes) old new says = absurd says
yes_cut (job.ListAnywhere filter) (Some bytes) old new says = absurd says

pub said_yes : (the_job : Job) (status : ℕ) (told old new : Option (List ℕ)) → (status ≡ 0 → IfSome told (λ bytes. SaysAccepted the_job bytes (Appends old new)))
    → (status ≡ 4 → IfSome told (λ bytes. SaysCut the_job bytes (Appends old new))) → (status ≡ 0) ⊎ (status ≡ 4) → IfSome told (IsYes the_job)
said_yes the_job status told old new accepted cut (inl is0) = yes_accepted the_job told old new (accepted is0)
said_yes the_job status told old new accepted cut (inr is4) = yes_cut the_job told old new (cut is4)

none_anywhere : (filter : FilterView) (options : Options) (bytes : List ℕ) (Went : List ℕ → Type 0) → SaysNoAnywhere filter options bytes Went → AreAdmittedAnywhere filter options bytes → ⊥
none_anywhere filter options bytes Went (inl refused) = λ a. refused.refused.right.none (a.0, a.1.admitted)
none_anywhere filter options bytes Went (inr hidden) = λ a.
    hidden.hidden.begins (drop hidden.to bytes) (subst (λ (xs : List ℕ). AreAdmittedAnywhere filter options xs) (sym (take-append-drop hidden.to bytes)) a)

-- what went out may be told of the bytes too
pub said_no : (the_job : Job) (told : Option (List ℕ)) (Went : (bytes : List ℕ) → List ℕ → Type 0) → IfSome told (λ bytes. SaysRefused the_job bytes (Went bytes)) → IfSome told (IsNo the_job)
said_no the_job None Went says = tt
said_no (job.Check filter strict) (Some bytes) Went says = says.refused.none
said_no (job.CheckAnywhere filter strict) (Some bytes) Went says = none_anywhere filter (options_of strict) bytes (Went bytes) says
said_no (job.Show values) (Some bytes) Went says = tt
said_no (job.ShowLimited values limit) (Some bytes) Went says = tt
said_no (job.List filter) (Some bytes) Went says = tt
said_no (job.ListAnywhere filter) (Some bytes) Went says = tt

pub text_accepted : OneReading → (the_job : Job) (told old new : Option (List ℕ)) → IfSome told (λ bytes. SaysAccepted the_job bytes (Appends old new))
    → IfSome told (λ bytes. EachListPrints the_job bytes (Appends old new))
text_accepted one the_job None old new says = tt
text_accepted one (job.Check filter strict) (Some bytes) old new says = λ list is.
    subst (Appends old new)
    (line_is bytes says.reported.0 says.report says.reported.2 ∙ ap (line_of_list bytes) (one bytes says.reported.0 list says.reported.1.stream is))
    says.printed
text_accepted one (job.CheckAnywhere filter strict) (Some bytes) old new says = λ list is.
    subst (Appends old new)
    (line_is bytes says.reported.0 says.report says.reported.2 ∙ ap (line_of_list bytes) (one bytes says.reported.0 list says.reported.1.admitted.stream is))
    says.printed
text_accepted one (job.Show values) (Some bytes) old new says = λ list is.
    subst (Appends old new) (ap (shown values) (one bytes says.list list says.passes.0 is)) says.printed
text_accepted one (job.ShowLimited values limit) (Some bytes) old new says = λ list is.
    subst (λ text. PrintsLimited limit text (Appends old new)) (ap (shown values) (one bytes says.list list says.passes.0 is)) (inl (says.fits, says.printed))
text_accepted one (job.List filter) (Some bytes) old new says = λ list is.
    subst (Appends old new) (ap (listed (words_on filter)) (one bytes says.list list says.passes.0 is)) says.printed
text_accepted one (job.ListAnywhere filter) (Some bytes) old new says = λ list is.
    subst (Appends old new) (ap (listed_anywhere filter bytes) (one bytes says.list list says.passes.0 is)) says.printed

text_cut : OneReading → (the_job : Job) (told old new : Option (List ℕ)) → IfSome told (λ bytes. SaysCut the_job bytes (Appends old new))
    → IfSome told (λ bytes. EachListPrints the_job bytes (Appends old new))
text_cut one the_job None old new says = tt
text_cut one (job.Check filter strict) (Some bytes) old new says = absurd says
text_cut one (job.CheckAnywhere filter strict) (Some bytes) old new says = absurd says
text_cut one (job.Show values) (Some bytes) old new says = absurd says
text_cut one (job.ShowLimited values limit) (Some bytes) old new says = λ list is.
    subst (λ text. PrintsLimited limit text (Appends old new)) (ap (shown values) (one bytes says.list list says.passes.0 is))
    (inr (record { printed = says.text; cut = says.cut; went = says.printed }))
text_cut one (job.List filter) (Some bytes) old new says = absurd says
text_cut one (job.ListAnywhere filter) (Some bytes) old new says = absurd says

pub said_text : OneReading → (the_job : Job) (status : ℕ) (told old new : Option (List ℕ))
    → (status ≡ 0 → IfSome told (λ bytes. SaysAccepted the_job bytes (Appends old new))) → (status ≡ 4 → IfSome told (λ bytes. SaysCut the_job bytes (Appends old new)))
    → (status ≡ 0) ⊎ (status ≡ 4) → IfSome told (λ bytes. EachListPrints the_job bytes (Appends old new))
said_text one the_job status told old new accepted cut (inl is0) = text_accepted one the_job told old new (accepted is0)
said_text one the_job status told old new accepted cut (inr is4) = text_cut one the_job told old new (cut is4)

-- the status that is none of the others
pub three : (the_job : Job) (status : ℕ) → (status ≡ 0) ⊎ ((status ≡ 1) ⊎ ((status ≡ 3) ⊎ ((status ≡ 4) × HasLimit the_job)))
    → (status ≢ 0) × (status ≢ 1) × (status ≢ 4) → status ≡ 3
three the_job status (inl is0) other = absurd (other.0 is0)
three the_job status (inr (inl is1)) other = absurd (other.1 is1)
three the_job status (inr (inr (inl is3))) other = is3
three the_job status (inr (inr (inr is4))) other = absurd (other.2 is4.0)

-- ---- nothing is printed

kept : (failed : Bool) (old new : Option (List ℕ)) (Said : Type 0) → Keeps old new ⊎ ((failed ≡ true) × Said) → failed ≡ false → Keeps old new
kept failed old new Said (inl keeps) whole = keeps
kept failed old new Said (inr said) whole = absurd (let e : true ≡ false = sym said.0 ∙ whole in cc)

pub prints_nothing : (the_job : Job) (told : Option (List ℕ)) (failed : Bool) (old new : Option (List ℕ)) → SaysFailed the_job told failed old new → failed ≡ false
    → PrintsNothing the_job old new
prints_nothing (job.Check filter strict) told failed old new says whole = kept failed old new _ says whole
prints_nothing (job.CheckAnywhere filter strict) told failed old new says whole = kept failed old new _ says whole
prints_nothing (job.Show values) told failed old new says whole = tt
prints_nothing (job.ShowLimited values limit) told failed old new says whole = kept failed old new _ says whole
prints_nothing (job.List filter) told failed old new says whole = kept failed old new _ says whole
prints_nothing (job.ListAnywhere filter) told failed old new says whole = kept failed old new _ says whole
