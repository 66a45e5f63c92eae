-- What `show --limit N` printed.
use Rattle.std.proofs.Common.{◌≡◌, ℕ, ◌≤◌, Bool, true, false, List, [], ◌++◌, length, take, drop, Option, Some, None, sym, ap, subst, ◌∙◌, inl, inr}
use Rattle.std.proofs.lemmas.List.{append-nil, take-append-drop}
use Rattle.std.specs.Global.{Global}
use Rattle.std.specs.Prelude.{◌⊎◌, IfSome, Vec}
use Rattle.std.specs.Io.KnownBytes.{Appends, Keeps}
use Rattle.jser_grammar.specs.Trees.{ContentTrees}
use Rattle.jser_shown.specs.Shown.{shown}
use Rattle.jser_index.specs.declared.GraphFault.{GraphFault}
use Rattle.jser_index.specs.Graphs.{GraphView, StandsFor, StandsForSome}
use Rattle.jser_index.specs.Showing.{WroteText, WroteFront}
use Rattle.jser_commands.specs.declared.limited.Limited.TheVariants as limited
use Rattle.jser_commands.specs.declared.start.Start.{Start}
use Rattle.jser_commands.specs.Limits.{BeginsText, IsFrontOf, IsLimitedText, WentCut, WentWithin, WroteCut, WroteSomeLimited, WroteWithin}
use Rattle.jser_commands.specs.Lines.{AppendsSome, CutText, KeptOrCut, KeptOrSaidSome, SaysCutShown, SaysLimited, SaysRefusal, SaysWithin}

-- ---- the first bytes of a text

pub begins_whole : (text : List ℕ) (start : Start) (first kept : List ℕ) → first ≡ [] → start.bytes.items ≡ kept → Appends (Some first) (Some kept) text
    → BeginsText start text
begins_whole text start first kept none is wrote =
    let same : start.bytes.items ≡ text = is ∙ wrote ∙ ap (λ xs. xs ++ text) none in
    record { rest = []; begins = sym same ∙ sym (append-nil start.bytes.items); all = λ yes. same }

pub begins_some : (text : List ℕ) (start : Start) (first kept : List ℕ) → start.whole ≡ false → first ≡ [] → start.bytes.items ≡ kept
    → AppendsSome (Some first) (Some kept) text → BeginsText start text
begins_some text start first kept part none is some =
    let same : start.bytes.items ≡ take some.count text = is ∙ some.went ∙ ap (λ xs. xs ++ take some.count text) none in
    record {
      rest = drop some.count text;
      begins = sym (take-append-drop some.count text) ∙ ap (λ xs. xs ++ drop some.count text) (sym same);
      all = λ yes. absurd (cc);
    }

pub front_whole : (values : Bool) (graph : GraphView) (start : Start) (first kept : List ℕ) → first ≡ [] → start.bytes.items ≡ kept → WroteText values graph (Some first) (Some kept)
    → IsFrontOf values graph start
unfolding WroteText IsFrontOf
front_whole values graph start first kept none is wrote bytes list stands = begins_whole (shown values list) start first kept none is (wrote bytes list stands)

pub front_some : (values : Bool) (graph : GraphView) (start : Start) (first kept : List ℕ) (why : GraphFault) → start.whole ≡ false → first ≡ [] → start.bytes.items ≡ kept
    → WroteFront values graph (Some first) (Some kept) why → IsFrontOf values graph start
unfolding WroteFront IsFrontOf
front_some values graph start first kept why part none is wrote bytes list stands =
    let some = wrote bytes list stands in
    begins_some (shown values list) start first kept part none is (record { count = some.count; within = some.within; went = some.went })

-- ---- what is printed of it

pub all_fits : (limit : ℕ) (values : Bool) (graph : GraphView) (start : Start) → IsFrontOf values graph start → start.whole ≡ true → length start.bytes.items ≤ limit
    → IsLimitedText values limit graph (limited.Whole start.bytes)
unfolding IsFrontOf IsLimitedText
all_fits limit values graph start front whole fits bytes list stands =
    let same : start.bytes.items ≡ shown values list = (front bytes list stands).all whole in
    record { fits = subst (λ xs. length xs ≤ limit) same fits; is = same }

pub is_cut : (limit : ℕ) (values : Bool) (graph : GraphView) (start : Start) (text : Vec ℕ Global) → IsFrontOf values graph start
    → ((rest : List ℕ) → CutText limit (start.bytes.items ++ rest) text.items) → IsLimitedText values limit graph (limited.Cut text)
unfolding IsFrontOf IsLimitedText
is_cut limit values graph start text front cut bytes list stands =
    let begins = front bytes list stands in
    subst (λ all. CutText limit all text.items) (sym begins.begins) (cut begins.rest)

-- ---- what went out

pub went_within : (limit : ℕ) (values : Bool) (graph : GraphView) (text : Vec ℕ Global) (printed : List ℕ) (old new : Option (List ℕ)) → IsLimitedText values limit graph (limited.Whole text)
    → printed ≡ text.items → Appends old new printed → WroteWithin values limit graph old new
unfolding IsLimitedText WroteWithin
went_within limit values graph text printed old new right same went bytes list stands =
    let fits = right bytes list stands in
    record { fits = fits.fits; went = subst (Appends old new) (same ∙ fits.is) went }

pub went_cut : (limit : ℕ) (values : Bool) (graph : GraphView) (text : Vec ℕ Global) (printed : List ℕ) (old new : Option (List ℕ)) → IsLimitedText values limit graph (limited.Cut text)
    → printed ≡ text.items → Appends old new printed → WroteCut values limit graph old new
unfolding IsLimitedText WroteCut
went_cut limit values graph text printed old new right same went bytes list stands =
    record { printed = text.items; cut = right bytes list stands; went = subst (Appends old new) same went }

pub within_failed : (limit : ℕ) (values : Bool) (graph : GraphView) (text : Vec ℕ Global) (printed : List ℕ) (failed : Bool) (old new : Option (List ℕ))
    → IsLimitedText values limit graph (limited.Whole text) → printed ≡ text.items → KeptOrCut failed old new printed → WroteSomeLimited values limit graph failed old new
unfolding IsLimitedText WroteSomeLimited
within_failed limit values graph text printed failed old new right same (inl kept) = inl kept
within_failed limit values graph text printed failed old new right same (inr some) = inr (
  some.0,
  λ bytes list stands. inl (record { fits = (right bytes list stands).fits; went = subst (AppendsSome old new) (same ∙ (right bytes list stands).is) some.1 }),
)

pub cut_failed : (limit : ℕ) (values : Bool) (graph : GraphView) (text : Vec ℕ Global) (printed : List ℕ) (failed : Bool) (old new : Option (List ℕ))
    → IsLimitedText values limit graph (limited.Cut text) → printed ≡ text.items → KeptOrCut failed old new printed → WroteSomeLimited values limit graph failed old new
unfolding IsLimitedText WroteSomeLimited
cut_failed limit values graph text printed failed old new right same (inl kept) = inl kept
cut_failed limit values graph text printed failed old new right same (inr some) = inr (
  some.0,
  λ bytes list stands. inr (record { printed = text.items; cut = right bytes list stands; went = subst (AppendsSome old new) same some.1 }),
)

pub nothing_went : (limit : ℕ) (values : Bool) (graph : GraphView) (failed : Bool) (old new : Option (List ℕ)) → Keeps old new → WroteSomeLimited values limit graph failed old new
unfolding WroteSomeLimited
nothing_went limit values graph failed old new kept = inl kept

-- ---- of a source

pub says_within : (told : Option (List ℕ)) (limit : ℕ) (values : Bool) (graph : GraphView) (old new : Option (List ℕ)) → IfSome told (λ bytes. StandsForSome bytes graph)
    → WroteWithin values limit graph old new → IfSome told (λ bytes. SaysWithin values limit bytes (Appends old new))
unfolding WroteWithin
says_within None limit values graph old new stands wrote = tt
says_within (Some bytes) limit values graph old new stands wrote =
    let went = wrote bytes stands.0 stands.1 in
    record { list = stands.0; passes = stands.1.passes; fits = went.fits; printed = went.went }

pub says_cut : (told : Option (List ℕ)) (limit : ℕ) (values : Bool) (graph : GraphView) (old new : Option (List ℕ)) → IfSome told (λ bytes. StandsForSome bytes graph)
    → WroteCut values limit graph old new → IfSome told (λ bytes. SaysCutShown values limit bytes (Appends old new))
unfolding WroteCut
says_cut None limit values graph old new stands wrote = tt
says_cut (Some bytes) limit values graph old new stands wrote =
    let went = wrote bytes stands.0 stands.1 in
    record { list = stands.0; passes = stands.1.passes; text = went.printed; cut = went.cut; printed = went.went }

says_some : (bytes : List ℕ) (limit : ℕ) (list : ContentTrees) (values : Bool) (graph : GraphView) (old new : Option (List ℕ)) → StandsFor graph bytes list
    → WentWithin limit (AppendsSome old new) (shown values list) ⊎ WentCut limit (AppendsSome old new) (shown values list) → SaysLimited values limit bytes (AppendsSome old new)
says_some bytes limit list values graph old new stands (inl went) = inl (record { list = list; passes = stands.passes; fits = went.fits; printed = went.went })
says_some bytes limit list values graph old new stands (inr went) =
    inr (record { list = list; passes = stands.passes; text = went.printed; cut = went.cut; printed = went.went })

pub limited_failed : (told : Option (List ℕ)) (limit : ℕ) (values : Bool) (graph : GraphView) (failed : Bool) (old new : Option (List ℕ)) → IfSome told (λ bytes. StandsForSome bytes graph)
    → WroteSomeLimited values limit graph failed old new → KeptOrSaidSome failed old new told (SaysLimited values limit) SaysRefusal
unfolding WroteSomeLimited
limited_failed told limit values graph failed old new stands (inl kept) = inl kept
limited_failed None limit values graph failed old new stands (inr some) = inr (some.0, tt)
limited_failed (Some bytes) limit values graph failed old new stands (inr some) =
    inr (some.0, inl (says_some bytes limit stands.0 values graph old new stands.1 (some.1 bytes stands.0 stands.1)))
