-- What `list` prints.
use Rattle.std.proofs.Common.{◌≡◌, ℕ, zero, suc, ◌+◌, ◌<◌, ◌≤◌, Bool, true, false, List, [], ◌∷◌, ◌++◌, length, take, drop, slice_get, Option, Some, None, codes, refl, sym, ap, subst, ◌∙◌, arith, append_assoc, length-append}
use Rattle.std.proofs.Math.Seq.{drop-cons, take-append_seam}
use Rattle.std.proofs.lemmas.List.{drop_all}
use Rattle.std.proofs.lemmas.Option.{get_or_from_slice_get, slice_get_within}
use Rattle.std.specs.Prelude.{IfSome, flat_map}
use Rattle.std.specs.Fmt.{decimal}
use Rattle.std.specs.Io.KnownBytes.{Appends}
use Rattle.jser_prim.specs.Outgoing.{Outgoing, SinkState, Puts}
use Rattle.jser_prim.proofs.OutgoingLemmas.{nothing, puts_both, went_out}
use Rattle.jser_filter.specs.declared.Verdict.{Verdict}
use Rattle.jser_filter.specs.declared.Verdict.TheVariants as verdict
use Rattle.jser_filter.specs.Filters.{FilterView, verdict_of}
use Rattle.jser_shown.specs.Counting.{NameTally, name_tally, tally_lines}
use Rattle.jser_shown.specs.Laws.{Counted}
use Rattle.jser_shown.specs.Listed.{listed}
use Rattle.jser_shown.specs.Words.{quoted, quoted_unit}
use Rattle.jser_names.specs.Sources.{HasNames}
use Rattle.jser_printer.specs.Says.{Says, Saying}
use Rattle.jser_printer.proofs.SaysLemmas.{says_before, says_on, says_same, says_both, says_five}
use Rattle.jser_names.specs.Counts.{IsCount}
use Rattle.jser_names.specs.declared.NameCount.{NameCount}
use Rattle.jser_commands.specs.Counts.{tally_line, lines_before}
use Rattle.jser_commands.specs.Lines.{AppendsSome, SaysText, SaysRefusal, KeptOrCut, KeptOrSaidSome, marked_words, verdict_words, words_on}
use Rattle.jser_commands.proofs.Lines.{yes_cut}

-- the text of the list that has these names
pub says_listed : Counted → (told : Option (List ℕ)) (filter : FilterView) (names : List NameTally) (Went : List ℕ → Type 0)
    → IfSome told (λ bytes. HasNames bytes names) → Went (tally_lines (words_on filter) names)
    → IfSome told (λ bytes. SaysText (listed (words_on filter)) bytes Went)
says_listed law None filter names Went has wrote = tt
says_listed law (Some bytes) filter names Went has wrote = record {
  list = has.list;
  passes = has.passes;
  printed = subst Went (ap (tally_lines (words_on filter)) has.names_are ∙ sym (law (words_on filter) has.list)) wrote;
}

pub listed_all : Counted → (told : Option (List ℕ)) (filter : FilterView) (names : List NameTally) (old new : Option (List ℕ))
    → IfSome told (λ bytes. HasNames bytes names) → Appends old new (tally_lines (words_on filter) names)
    → IfSome told (λ bytes. SaysText (listed (words_on filter)) bytes (Appends old new))
listed_all law told filter names old new = says_listed law told filter names (Appends old new)

-- its first bytes, where the output failed
pub listed_cut : Counted → (told : Option (List ℕ)) (filter : FilterView) (names : List NameTally) (failed : Bool) (old new : Option (List ℕ))
    → IfSome told (λ bytes. HasNames bytes names) → KeptOrCut failed old new (tally_lines (words_on filter) names)
    → KeptOrSaidSome failed old new told (SaysText (listed (words_on filter))) SaysRefusal
listed_cut law told filter names failed old new has =
    yes_cut failed old new told (tally_lines (words_on filter) names) (SaysText (listed (words_on filter))) SaysRefusal
    (λ some. says_listed law told filter names (AppendsSome old new) has some)

-- a word, and the index of a piece
pub says_index : (a b c : Outgoing) (d e f : SinkState) (word : List ℕ) (index : ℕ) → Says a b d e (λ k. word ++ k) → Says b c e f (λ k. decimal index ++ k)
    → Says a c d f (λ k. (word ++ decimal index) ++ k)
says_index a b c d e f word index h g =
    says_same a c d f (λ k. word ++ (decimal index ++ k)) (λ k. (word ++ decimal index) ++ k) (λ k. append_assoc word (decimal index) k)
    (says_both a b c d e f (λ k. word ++ k) (λ k. decimal index ++ k) h g)

pub says_allowed : (a b c : Outgoing) (d e f : SinkState) (said : Verdict) (index : ℕ) → said ≡ verdict.Allowed index
    → Says a b d e (λ k. codes "allowed:" ++ k) → Says b c e f (λ k. decimal index ++ k) → Says a c d f (λ k. verdict_words said ++ k)
says_allowed a b c d e f said index is h g =
    subst (λ v. Says a c d f (λ k. verdict_words v ++ k)) (sym is) (says_index a b c d e f (codes "allowed:") index h g)

pub says_rejected : (a b c : Outgoing) (d e f : SinkState) (said : Verdict) (index : ℕ) → said ≡ verdict.Rejected index
    → Says a b d e (λ k. codes "rejected:" ++ k) → Says b c e f (λ k. decimal index ++ k) → Says a c d f (λ k. verdict_words said ++ k)
says_rejected a b c d e f said index is h g =
    subst (λ v. Says a c d f (λ k. verdict_words v ++ k)) (sym is) (says_index a b c d e f (codes "rejected:") index h g)

-- the verdict on a name, behind a mark
pub says_marked : (a b c : Outgoing) (d e f : SinkState) (filter : FilterView) (mark name : List ℕ) (said : Verdict) → said ≡ verdict_of filter name
    → Says a b d e (λ k. mark ++ k) → Says b c e f (λ k. verdict_words said ++ k) → Says a c d f (λ k. (mark ++ words_on filter name) ++ k)
says_marked a b c d e f filter mark name said is h g =
    says_same a c d f (λ k. mark ++ (words_on filter name ++ k)) (λ k. (mark ++ words_on filter name) ++ k) (λ k. append_assoc mark (words_on filter name) k)
    (says_both a b c d e f (λ k. mark ++ k) (λ k. words_on filter name ++ k) h (subst (λ v. Says b c e f (λ k. verdict_words v ++ k)) is g))

-- the line of a name
pub says_line : (a b c d e f g : Outgoing) (p q r s t u v : SinkState) (filter : FilterView) (mark name : List ℕ) (times : ℕ)
    → Says a b p q (λ k. decimal times ++ k) → Says b c q r (λ k. 0x20 ∷ k) → Says c d r s (λ k. (mark ++ words_on filter name) ++ k)
    → Says d e s t (λ k. 0x20 ∷ k) → Says e f t u (λ k. quoted name k) → Says f g u v (λ k. 0x0A ∷ k)
    → Says a g p v (λ k. tally_line (marked_words mark filter) (name_tally name times) k)
says_line a b c d e f g p q r s t u v filter mark name times x1 x2 x3 x4 x5 x6 =
    says_both a b g p q v (λ k. decimal times ++ k) (λ k. 0x20 ∷ ((mark ++ words_on filter name) ++ (0x20 ∷ quoted name (0x0A ∷ k)))) x1
    (says_five b c d e f g q r s t u v (λ k. 0x20 ∷ k) (λ k. (mark ++ words_on filter name) ++ k) (λ k. 0x20 ∷ k) (λ k. quoted name k) (λ k. 0x0A ∷ k)
    x2 x3 x4 x5 x6)

-- ---- all lines

pub lines_are : (words : List ℕ → List ℕ) (tallies : List NameTally) → lines_before words tallies [] ≡ tally_lines words tallies
lines_are words [] = refl
lines_are words (t ∷ ts) = ap (tally_line words t) (lines_are words ts)

-- the tally at a number, as it is lent
pub count_at : (found : Option NameTally) (lent : NameCount) → IsCount found (Some lent) → found ≡ Some (name_tally lent.name.now lent.times)
count_at None lent is = absurd is
count_at (Some tally) lent is = ap Some (sym is)

-- there is one
pub count_is_there : (tallies : List NameTally) (number : ℕ) → number < length tallies → IsCount (slice_get tallies number) None → ⊥
count_is_there [] number inside none = absurd (omega (arith, inside))
count_is_there (t ∷ ts) zero inside none = none
count_is_there (t ∷ ts) (suc number) inside none = count_is_there ts number (omega (arith, inside)) none

-- one line more
pub lines_on : (a b c : Outgoing) (d e f : SinkState) (words : List ℕ → List ℕ) (tallies : List NameTally) (number : ℕ) (tally : NameTally)
    (all : List ℕ → List ℕ) → slice_get tallies number ≡ Some tally
    → Saying a b d e all (λ k. lines_before words (drop number tallies) k)
    → Says b c e f (λ k. tally_line words tally k)
    → Saying a c d f all (λ k. lines_before words (drop (number + 1) tallies) k)
lines_on a b c d e f words tallies number tally all here so line =
    let next : drop number tallies ≡ tally ∷ drop (suc number) tallies =
    drop-cons tallies number tally (slice_get_within tallies number tally here)
    ∙ ap (λ t. t ∷ drop (suc number) tallies) (get_or_from_slice_get tallies number tally tally here) in
    let n : suc number ≡ number + 1 = omega arith in
    let left : List NameTally → List ℕ → List ℕ = λ ts k. lines_before words ts k in
    subst (λ m. Saying a c d f all (left (drop m tallies))) n
    (says_on a b c d e f all (left (tally ∷ drop (suc number) tallies)) (left (drop (suc number) tallies))
    (subst (λ ts. Saying a b d e all (left ts)) next so)
    (says_before b c e f (λ k. tally_line words tally k) (left (drop (suc number) tallies)) line))

-- none is left
pub lines_ended : (a b : Outgoing) (d e : SinkState) (words : List ℕ → List ℕ) (tallies : List NameTally) (number : ℕ) (all : List ℕ → List ℕ)
    → length tallies ≤ number → Saying a b d e all (λ k. lines_before words (drop number tallies) k) → Says a b d e all
lines_ended a b d e words tallies number all past so =
    subst (λ ts. Saying a b d e all (λ k. lines_before words ts k)) (drop_all number tallies past) so

-- what was said went out
pub text_went_out : (start mid now : Outgoing) (before middle after : SinkState) (text : List ℕ → List ℕ) (all : List ℕ) → text [] ≡ all
    → start ≡ nothing → Says start mid before middle text → Puts mid now middle after []
    → now.failed ≡ false → (now.failed ≡ false → now.waiting ≡ []) → Appends before.gone_out after.gone_out all
text_went_out start mid now before middle after text all is new says flush on empty =
    subst (Appends before.gone_out after.gone_out) (sym (says.is []) ∙ is)
    (went_out start now before after (says.bytes ++ []) new (puts_both start mid now before middle after says.bytes [] says.puts flush) on empty).0

pub text_failed : (start mid now : Outgoing) (before middle after : SinkState) (text : List ℕ → List ℕ)
    → start ≡ nothing → Says start mid before middle text → Puts mid now middle after []
    → now.failed ≡ true → after.failed ≡ true
text_failed start mid now before middle after text new says flush off =
    let all = puts_both start mid now before middle after says.bytes [] says.puts flush in
    (all.going (ap (λ o. o.failed) new)).fault off

-- the first bytes went out, where the sink failed
pub text_cut : (start mid now : Outgoing) (before middle after : SinkState) (text : List ℕ → List ℕ) (whole : List ℕ) → text [] ≡ whole
    → start ≡ nothing → Says start mid before middle text → Puts mid now middle after []
    → AppendsSome before.gone_out after.gone_out whole
text_cut start mid now before middle after text whole is new says flush =
    let all = puts_both start mid now before middle after says.bytes [] says.puts flush in
    let hands = all.going (ap (λ o. o.failed) new) in
    let split : whole ≡ hands.out ++ hands.left =
    sym (sym (says.is []) ∙ is) ∙ ap (λ o. o.waiting ++ (says.bytes ++ [])) (sym new) ∙ hands.split in
    let front : hands.out ≡ take (length hands.out) whole =
    sym (ap (take (length hands.out)) split ∙ take-append_seam hands.out hands.left) in
    record {
      count = length hands.out;
      within = subst (λ xs. length hands.out ≤ length xs) (sym split) (omega (arith, length-append hands.out hands.left));
      went = subst (Appends before.gone_out after.gone_out) front hands.went;
    }

-- it did not fail
pub text_kept : (start mid now : Outgoing) (before middle after : SinkState) (text : List ℕ → List ℕ)
    → start ≡ nothing → Says start mid before middle text → Puts mid now middle after []
    → now.failed ≡ false → after.failed ≡ before.failed
text_kept start mid now before middle after text new says flush on =
    let all = puts_both start mid now before middle after says.bytes [] says.puts flush in
    (all.going (ap (λ o. o.failed) new)).kept on

line_before : (words : List ℕ → List ℕ) (tally : NameTally) (rest more : List ℕ) → tally_line words tally rest ++ more ≡ tally_line words tally (rest ++ more)
line_before words tally rest more =
    append_assoc (decimal tally.times) (0x20 ∷ (words tally.name ++ (0x20 ∷ quoted tally.name (0x0A ∷ rest)))) more
    ∙ ap (λ xs. decimal tally.times ++ (0x20 ∷ xs)) (append_assoc (words tally.name) (0x20 ∷ quoted tally.name (0x0A ∷ rest)) more)
    ∙ ap (λ xs. decimal tally.times ++ (0x20 ∷ (words tally.name ++ (0x20 ∷ (0x22 ∷ xs))))) (append_assoc (flat_map quoted_unit tally.name) (0x22 ∷ (0x0A ∷ rest)) more)

-- the lines of one list of tallies, and of another behind them
pub both_are : (one two : List ℕ → List ℕ) (tallies others : List NameTally)
    → lines_before one tallies (lines_before two others []) ≡ tally_lines one tallies ++ tally_lines two others
both_are one two [] others = lines_are two others
both_are one two (t ∷ ts) others =
    ap (tally_line one t) (both_are one two ts others) ∙ sym (line_before one t (tally_lines one ts) (tally_lines two others))
