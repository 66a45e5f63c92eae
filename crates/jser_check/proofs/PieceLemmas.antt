-- From what a reader and a scan tell of the same bytes to what the check of both answers.
use Rattle.std.specs.Prelude.{IfSome, nat_lt}
use Rattle.std.specs.Prelude.{OnOk}
use Rattle.std.proofs.Common.{◌≡◌, ◌⊎◌, ℕ, ◌+◌, ◌^◌, ◌<◌, ◌≤◌, ◌∙◌, Bool, true, false, if◌then◌else◌, List, [], ◌++◌, length, Result, Ok, Err, Option, Some, None, inl, inr, refl, sym, ap, subst, arith}
use Rattle.std.proofs.lemmas.Bool.Decides.{nat_tests}
use Rattle.jser_grammar.specs.Parts.{IsBytes}
use Rattle.jser_grammar.specs.Caps.{most_bytes}
use Rattle.jser_verdict.specs.Reasons.{truncated}
use Rattle.jser_verdict.specs.Reasons.{Reason as ToldReason}
use Rattle.jser_verdict.specs.Gates.{Gate}
use Rattle.jser_verdict.specs.FirstFault.{IsFault}
use Rattle.jser_reader.specs.declared.Refusal.{Refusal}
use Rattle.jser_reader.specs.declared.Stop.{Stop}
use Rattle.jser_reader.specs.declared.Stop.TheVariants as stop
use Rattle.jser_reader.specs.declared.Totals.{Totals}
use Rattle.jser_reader.specs.declared.tally.Tally.{Tally}
use Rattle.jser_reader.specs.Readers.{Seen}
use Rattle.jser_reader.specs.ReaderStates.{Reading, StandsFor, SkipTells, FinishTells}
use Rattle.jser_filter.specs.Filters.{FilterView}
use Rattle.jser_check.specs.declared.gate.Options.{Options}
use Rattle.jser_check.specs.Admitted.{FilterWith, gate_of_filter}
use Rattle.jser_check.specs.Caps.{keeps_caps}
use Rattle.jser_check.specs.Answers.{CarriesFirst}
use Rattle.jser_check.specs.Checks.{DecidesIn}
use Rattle.jser_check.proofs.Feeding.{FeedTells as ReaderTells, Ends}
use Rattle.jser_check.proofs.FeedLemmas.{feed_tells, finish_ends}
use Rattle.jser_check.proofs.CheckLemmas.{told, feed_takes, feed_undecided, feed_refused, end_of, end_bytes}
use Rattle.jser_reader.proofs.RefusalLemmas.{right_first}
use Rattle.jser_check.proofs.AnswerLemmas.{reports, right_refuses}
use Rattle.jser_check.proofs.ReaderLemmas.{stands_undecided}
use Rattle.jser_anywhere.specs.declared.Hidden.{Hidden}
use Rattle.jser_anywhere.specs.Standing.{StandsAt, HiddenAt, NotAfter, AllPass, IsFirstHidden}
use Rattle.jser_anywhere.specs.Steps.{Scanning}
use Rattle.jser_anywhere.specs.Scans.{HasScanned, EndsIn, Tells as ScanTells, TakesBytes, most_taken}
use Rattle.jser_anywhere.proofs.ScanLemmas.{hidden_longer}
use Rattle.jser_check.specs.Passing.{Asked, asking, passes_name, passes_in, AreAdmittedBy}
use Rattle.jser_check.specs.Joins.{sooner_of, first_of}
use Rattle.jser_check.specs.declared.fault.AnywhereFault.{AnywhereFault}
use Rattle.jser_check.specs.declared.fault.AnywhereFault.TheVariants as fault
use Rattle.jser_check.specs.Pieces.{asked_of, asked_by, scans, MayScan, AreUndecided, NoneSooner, TellsFault, Checking, HasTaken, PieceTells, FeedTells, EndTells}

-- ---- a new check

pub begins_both : (reader : Reading FilterWith) (scan : Option Scanning) (gate : FilterWith) → reader.gate ≡ gate → StandsFor (told gate) [] reader.machine reader.tally
    → ((passes : List ℕ → Bool) → IfSome scan (HasScanned passes [])) → HasTaken (record { reader = reader; scan = scan; stopped = None }) []
begins_both reader scan gate same st s = record {
  stands = subst (λ g. StandsFor (told g) [] reader.machine reader.tally) (sym same) st;
  scanned = s (passes_in (asked_of reader.gate scan));
  going = refl;
}

pub asks_made : (gate : FilterWith) (filter : FilterView) (options : Options) (anywhere : Bool) → gate.filter ≡ filter → gate.options ≡ options
    → asking gate.filter gate.options anywhere ≡ asking filter options anywhere
asks_made gate filter options anywhere f o = ap (λ (x : FilterView). asking x gate.options anywhere) f ∙ ap (λ (x : Options). asking filter x anywhere) o

-- ---- where it asks about no names

-- none is hidden
pub none_hidden : (filter : FilterView) (options : Options) (bytes : List ℕ) → AllPass (passes_in (asking filter options false)) bytes
none_hidden filter options bytes from to hidden = let e : true ≡ false = hidden.fails in absurd (cc)

pass_by : (gate : FilterWith) (scan : Option Scanning) (taken : List ℕ) → IfSome scan (HasScanned (passes_in (asked_of gate scan)) taken) → AllPass (passes_in (asked_of gate scan)) taken
pass_by gate None taken s = none_hidden gate.filter gate.options taken
pass_by gate (Some scan) taken s = s.pass

pub all_pass : (check : Checking) (taken : List ℕ) → HasTaken check taken → AllPass (passes_in (asked_by check)) taken
all_pass check taken h = pass_by check.reader.gate check.scan taken h.scanned

scans_same : (gate : FilterWith) (old new : Option Scanning) (piece : List ℕ) (hidden : Option Hidden) → MayScan gate old new piece hidden → scans new ≡ scans old
scans_same gate None None piece hidden m = refl
scans_same gate None (Some new) piece hidden m = absurd m
scans_same gate (Some old) None piece hidden m = absurd m
scans_same gate (Some old) (Some new) piece hidden m = refl

pub asks_same : (old new : Checking) → new.reader.gate ≡ old.reader.gate → scans new.scan ≡ scans old.scan → asked_by new ≡ asked_by old
asks_same old new same e =
    ap (λ (g : FilterWith). asked_of g new.scan) same ∙ ap (λ (b : Bool). asking old.reader.gate.filter old.reader.gate.options b) e

-- what a scan tells of a piece, or none
abbrev pub MayTell : Asked → (taken piece : List ℕ) → Option Hidden → Option Scanning → Type 0
MayTell asked taken piece None new = AllPass (passes_in asked) (taken ++ piece) × IfSome new (HasScanned (passes_in asked) (taken ++ piece))
MayTell asked taken piece (Some hidden) new = EndsIn (passes_in asked) taken piece hidden.from hidden.to

told_by : (asked : Asked) (taken piece : List ℕ) (hidden : Option Hidden) (new : Scanning) → ScanTells (passes_in asked) taken piece hidden new → MayTell asked taken piece hidden (Some new)
told_by asked taken piece None new s = (s.pass, s)
told_by asked taken piece (Some hidden) new s = s

scan_tells : (passes : List ℕ → Bool) (old new : Scanning) (taken piece : List ℕ) (hidden : Option Hidden) → TakesBytes passes old new piece hidden
    → length taken + length piece ≤ most_taken → HasScanned passes taken old → ScanTells passes taken piece hidden new
unfolding TakesBytes
scan_tells passes old new taken piece hidden t fits s = t taken fits s

pub may_tell : (gate : FilterWith) (old new : Option Scanning) (taken piece : List ℕ) (hidden : Option Hidden) → MayScan gate old new piece hidden → length taken + length piece ≤ most_taken
    → IfSome old (HasScanned (passes_in (asked_of gate old)) taken) → MayTell (asked_of gate old) taken piece hidden new
may_tell gate None None taken piece None m fits s = (none_hidden gate.filter gate.options (taken ++ piece), tt)
may_tell gate None None taken piece (Some hidden) m fits s = absurd (cc)
may_tell gate None (Some new) taken piece hidden m fits s = absurd m
may_tell gate (Some old) None taken piece hidden m fits s = absurd m
may_tell gate (Some old) (Some new) taken piece hidden m fits s =
    told_by (asked_of gate (Some old)) taken piece hidden new (scan_tells (passes_name gate.filter gate.options) old new taken piece hidden m fits s)

-- ---- what it stands for

stands_short : (gate : Gate) (bytes : List ℕ) (r : Seen) (tally : Tally) → StandsFor gate bytes r tally → length bytes ≤ gate.bytes
unfolding StandsFor
stands_short gate bytes r tally s = s.1

pub few_taken : (check : Checking) (taken : List ℕ) → HasTaken check taken → length taken ≤ most_bytes
few_taken check taken h =
    let a = stands_short (told check.reader.gate) taken check.reader.machine check.reader.tally h.stands in
    let b = (keeps_caps check.reader.gate.filter check.reader.gate.options).0 in
    omega arith

pub taken_undecided : (check : Checking) (taken : List ℕ) → HasTaken check taken → AreUndecided (asked_by check) taken
taken_undecided check taken h =
    record { none = stands_undecided (told check.reader.gate) taken check.reader.machine check.reader.tally h.stands; pass = all_pass check taken h }

pub fed_undecided : (old new : Checking) (taken piece : List ℕ) → asked_by new ≡ asked_by old → (result : Result (Unit {0}) AnywhereFault)
    → FeedTells (asked_by old) taken piece result new → OnOk result (AreUndecided (asked_by old) (taken ++ piece))
fed_undecided old new taken piece same (Ok x) h = subst (λ (a : Asked). AreUndecided a (taken ++ piece)) same (taken_undecided new (taken ++ piece) h)
fed_undecided old new taken piece same (Err why) h = tt

-- ---- names

-- a name that does not pass is not admitted, whatever follows
pub never_admitted : (asked : Asked) (bytes after : List ℕ) (from to : ℕ) → HiddenAt (passes_in asked) bytes from to
    → AreAdmittedBy asked (bytes ++ after) → ⊥
never_admitted asked bytes after from to hidden a =
    let longer = hidden_longer (passes_in asked) bytes after from to hidden in
    let e : true ≡ false = sym (a.1.names from to longer.units longer.stands) ∙ longer.fails in
    absurd cc

passes_all : (asked : Asked) (units : List ℕ) (is : Bool) → passes_in asked units ≡ is → (passes_in asked units ≡ false → ⊥) → is ≡ true
passes_all asked units true e none = refl
passes_all asked units false e none = absurd (none e)

-- ---- a piece

hidden_alone : (asked : Asked) (taken piece : List ℕ) (from to : ℕ) → EndsIn (passes_in asked) taken piece from to
    → ((at end : ℕ) (reason : ToldReason) → IsFault (gate_of_filter asked.filter asked.options) (taken ++ piece) at end reason → (reason ≡ truncated) ⊎ (to < end))
    → TellsFault asked taken piece (fault.Hidden from to)
hidden_alone asked taken piece from to e none =
    (record { first = e.first; sooner = none; begins = λ after a. never_admitted asked (taken ++ piece) after from to e.first.hidden a }, e.later)

not_sooner : (from to other_from other_to end : ℕ) → NotAfter from to other_from other_to → end ≤ to → end ≤ other_to
not_sooner from to other_from other_to end (inl less) e = omega arith
not_sooner from to other_from other_to end (inr same) e = omega (arith, same.0)

no_sooner : (asked : Asked) (bytes : List ℕ) (from to end : ℕ) → IsFirstHidden (passes_in asked) bytes from to → end ≤ to → NoneSooner asked bytes end
no_sooner asked bytes from to end first less = λ other_from other_to hidden. not_sooner from to other_from other_to end (first.first other_from other_to hidden) less

later_fault : (to end other : ℕ) → to < end → end ≤ other → {X : Type 0} → X ⊎ (to < other)
later_fault to end other less e = inr (omega arith)

end_of_tie : (end other : ℕ) {X : Type 0} → (end < other) ⊎ ((end ≡ other) × X) → end ≤ other
end_of_tie end other (inl less) = omega arith
end_of_tie end other (inr same) = omega (arith, same.0)

first_end : (asked : Asked) (bytes : List ℕ) (refusal : Refusal) → CarriesFirst (gate_of_filter asked.filter asked.options) bytes refusal
    → (at end : ℕ) (reason : ToldReason) → IsFault (gate_of_filter asked.filter asked.options) bytes at end reason → refusal.to_byte ≤ end
first_end asked bytes refusal c at end reason f = end_of_tie refusal.to_byte end (c.is_first.1 at end reason f)

refused_sooner : (asked : Asked) (taken piece : List ℕ) (refusal : Refusal) (hidden : Hidden) (is : Bool) → nat_lt hidden.to refusal.to_byte ≡ is
    → DecidesIn asked.filter asked.options taken piece refusal → EndsIn (passes_in asked) taken piece hidden.from hidden.to
    → TellsFault asked taken piece (if is then fault.Hidden hidden.from hidden.to else fault.Stop (stop.Refused refusal))
refused_sooner asked taken piece refusal hidden true less d e =
    hidden_alone asked taken piece hidden.from hidden.to e (λ at end reason f. later_fault hidden.to refusal.to_byte end (grind (arith, nat_tests, less)) (first_end asked (taken ++ piece) refusal d.first at end reason f))
refused_sooner asked taken piece refusal hidden false less d e =
    (d, no_sooner asked (taken ++ piece) hidden.from hidden.to refusal.to_byte e.first (grind (arith, nat_tests, less)))

refused_by : (asked : Asked) (taken piece : List ℕ) (refusal : Refusal) (hidden : Option Hidden) (scan : Option Scanning) → DecidesIn asked.filter asked.options taken piece refusal
    → MayTell asked taken piece hidden scan → TellsFault asked taken piece (sooner_of refusal hidden)
refused_by asked taken piece refusal None scan d s = (d, λ from to hidden. absurd (s.0 from to hidden))
refused_by asked taken piece refusal (Some hidden) scan d e = refused_sooner asked taken piece refusal hidden (nat_lt hidden.to refusal.to_byte) refl d e

both_by : (old new : Checking) (taken piece : List ℕ) (checked : Result (Unit {0}) Stop) (hidden : Option Hidden) → HasTaken old taken → IsBytes piece
    → ReaderTells told old.reader new.reader piece checked → MayTell (asked_by old) taken piece hidden new.scan
    → asked_by new ≡ asked_by old → new.stopped ≡ old.stopped
    → PieceTells (asked_by old) taken piece (first_of checked hidden) new
both_by old new taken piece (Ok x) None h bytes r s same stopped = record {
  stands = feed_takes old.reader new.reader piece taken (Ok x) r h.stands;
  scanned = subst (λ (a : Asked). IfSome new.scan (HasScanned (passes_in a) (taken ++ piece))) (sym same) s.1;
  going = stopped ∙ h.going;
}
both_by old new taken piece (Ok x) (Some hidden) h bytes r s same stopped =
    hidden_alone (asked_by old) taken piece hidden.from hidden.to s
    (λ at end reason f. inl (feed_undecided old.reader new.reader piece taken (Ok x) r h.stands at end reason f))
both_by old new taken piece (Err (stop.Refused refusal)) hidden h bytes r s same stopped =
    refused_by (asked_by old) taken piece refusal hidden new.scan
    (feed_refused old.reader new.reader piece taken (Err (stop.Refused refusal)) bytes r h.stands) s
both_by old new taken piece (Err stop.OutOfMemory) hidden h bytes r s same stopped = tt
both_by old new taken piece (Err stop.Spent) hidden h bytes r s same stopped =
    feed_refused old.reader new.reader piece taken (Err stop.Spent) bytes r h.stands

pub both_tell : (old new : Checking) (taken piece : List ℕ) (checked : Result (Unit {0}) Stop) (hidden : Option Hidden) → HasTaken old taken → IsBytes piece → length piece < 2 ^ 63
    → SkipTells (told old.reader.gate) piece checked old.reader.machine old.reader.tally new.reader.machine new.reader.tally
    → MayScan old.reader.gate old.scan new.scan piece hidden
    → new.reader.gate ≡ old.reader.gate → new.stopped ≡ old.stopped
    → PieceTells (asked_by old) taken piece (first_of checked hidden) new
both_tell old new taken piece checked hidden h bytes short r t same stopped =
    both_by old new taken piece checked hidden h bytes (feed_tells told old.reader new.reader piece checked same r)
    (may_tell old.reader.gate old.scan new.scan taken piece hidden t (omega (arith, short, few_taken old taken h)) h.scanned)
    (asks_same old new same (scans_same old.reader.gate old.scan new.scan piece hidden t)) stopped

pub piece_tells : (old new : Checking) (taken piece : List ℕ) (checked : Result (Unit {0}) Stop) (hidden : Option Hidden) (why : Option AnywhereFault) → why ≡ first_of checked hidden
    → PieceTells (asked_by old) taken piece (first_of checked hidden) new → PieceTells (asked_by old) taken piece why new
piece_tells old new taken piece checked hidden why e t = subst (λ w. PieceTells (asked_by old) taken piece w new) (sym e) t

-- ---- the end

names_pass : (asked : Asked) (taken : List ℕ) → AllPass (passes_in asked) taken
    → (from to : ℕ) (units : List ℕ) → StandsAt taken from to units → passes_in asked units ≡ true
names_pass asked taken all from to units stands =
    passes_all asked units (passes_in asked units) refl (λ e. all from to (record { units = units; stands = stands; fails = e }))

-- an answer of the reader as one of this check
abbrev pub as_fault : Result Totals Stop → Result Totals AnywhereFault
as_fault (Ok totals) = Ok totals
as_fault (Err why) = Err (fault.Stop why)

end_by : (check : Checking) (taken : List ℕ) (result : Result Totals Stop) (new : Seen) → HasTaken check taken → Ends (told check.reader.gate) taken result new → IsBytes taken
    → (whole : Result Totals AnywhereFault) → as_fault result ≡ whole → EndTells (asked_by check) taken whole
end_by check taken (Ok totals) new h e bytes whole is =
    let r = reports check.reader.gate.filter check.reader.gate.options taken totals e.tells in
    subst (λ w. EndTells (asked_by check) taken w) is
    (r.0, record { admitted = r.1; names = names_pass (asked_by check) taken (all_pass check taken h) }, r.2)
end_by check taken (Err (stop.Refused refusal)) new h e bytes whole is =
    subst (λ w. EndTells (asked_by check) taken w) is
    (record { right = right_refuses check.reader.gate.filter check.reader.gate.options taken refusal e.tells; first = right_first (told check.reader.gate) taken refusal bytes e.tells; cut = e.cut refusal refl; passes = all_pass check taken h })
end_by check taken (Err stop.OutOfMemory) new h e bytes whole is = absurd (e.sure refl)
end_by check taken (Err stop.Spent) new h e bytes whole is = absurd e.tells

pub end_tells : (check : Checking) (taken : List ℕ) (result : Result Totals Stop) (new : Seen) → HasTaken check taken
    → FinishTells (told check.reader.gate) result check.reader.machine check.reader.tally new → EndTells (asked_by check) taken (as_fault result)
end_tells check taken result new h f =
    let e = end_of check.reader result new taken (finish_ends (told check.reader.gate) result check.reader.machine check.reader.tally new f) h.stands in
    end_by check taken result new h e (end_bytes check.reader taken h.stands) (as_fault result) refl
