-- What a printed filter is worth.
use Rattle.std.proofs.Common.{◌∙◌, ◌≢◌, ℕ, ◌≤◌, Bool, true, List, [], ◌∷◌, Option, None, Some, inl, inr, refl}
use Rattle.std.specs.Io.KnownBytes.{Keeps}
use Rattle.jser_suggest.specs.Suggested.{Known, widened}
use Rattle.jser_suggest.specs.Samples.{AreKnown}
use Rattle.jser_suggest.specs.Laws.{AdmitsWidened}
use Rattle.jser_scan.specs.Samples.{LeavesSuggested, SaysSuggested}
use Rattle.uses_commands.specs.Suggests.{PrintsFilterOf}

pub prints_filter : (n : ℕ) (bytes : List ℕ) (known : Known) (old new : Option (List ℕ)) → AdmitsWidened → 1 ≤ n → AreKnown (bytes ∷ []) known → SaysSuggested (widened n known) old new
    → PrintsFilterOf bytes old new
prints_filter n bytes known old new law one are said =
    record { text = said.spells.text; line = said.line; line_is = said.spells.line_is; printed = said.printed; admits = λ filter options is. (law n (bytes ∷ []) known filter options one are (is ∙ said.spells.pieces)).0 }

-- what was printed where there is no filter

pub left_nothing : (known : Known) (failed : Bool) (old new : Option (List ℕ)) → LeavesSuggested known failed old new → failed ≢ true → Keeps old new
left_nothing known failed old new (inl kept) good = kept
left_nothing known failed old new (inr some) good = absurd (good some.0)

pub same_kept : (told : Option (List ℕ)) → Keeps told told
same_kept None = tt
same_kept (Some bytes) = refl
