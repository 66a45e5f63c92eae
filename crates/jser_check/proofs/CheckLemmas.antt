-- The check in pieces: from what a check tells under the gate of a filter to what it answers of the filter.
use Rattle.std.specs.Prelude.{IfErr, OnOk}
use Rattle.std.proofs.Common.{◌≡◌, ℕ, ◌<◌, List, [], ◌++◌, length, take, drop, Result, Ok, Err, inl, sym, ◌∙◌, ap, subst, arith, append_assoc, append-nil, length-append, length-take-le, take-append-drop}
use Rattle.jser_grammar.specs.Parts.{IsBytes}
use Rattle.jser_verdict.specs.Gates.{Gate}
use Rattle.jser_verdict.proofs.ByteLists.{bytes_both}
use Rattle.jser_reader.specs.declared.Stop.{Stop}
use Rattle.jser_reader.specs.declared.Stop.TheVariants as stop
use Rattle.jser_reader.specs.declared.Refusal.{Refusal}
use Rattle.jser_reader.specs.declared.Totals.{Totals}
use Rattle.jser_reader.specs.declared.tally.Tally.{Tally}
use Rattle.jser_reader.specs.Readers.{Seen}
use Rattle.jser_reader.specs.ReaderStates.{StandsFor}
use Rattle.jser_filter.specs.Filters.{FilterView}
use Rattle.jser_check.specs.declared.gate.Options.{Options}
use Rattle.jser_check.specs.Admitted.{FilterWith, gate_of_filter}
use Rattle.jser_reader.specs.Answers.{FrontRefused}
use Rattle.jser_check.specs.Answers.{DecideNothing, IfRefused}
use Rattle.jser_check.proofs.Feeding.{Fed, RefusesIn, StopsIn, FeedTells, Ends, EndTells}
use Rattle.jser_check.specs.Checks.{DecidesIn}
use Rattle.jser_check.proofs.Readers.{Reader, gate_of, HasTaken}
use Rattle.jser_reader.proofs.RefusalLemmas.{front_refused, refused_whole, right_first}
use Rattle.jser_check.proofs.AnswerLemmas.{right_refuses}
use Rattle.jser_check.proofs.ReaderLemmas.{stands_undecided}

abbrev pub told : FilterWith → Gate
told gate = gate_of_filter gate.filter gate.options

-- ---- a piece that was taken

-- under the gate that it had
stands_old : (old new : Reader) (piece taken : List ℕ) → Fed told old new piece [] → HasTaken old taken
    → StandsFor (gate_of old) (taken ++ piece) new.machine new.tally
stands_old old new piece taken f st =
    let whole : piece ≡ f.front = f.split ∙ append-nil f.front in
    subst (λ xs. StandsFor (gate_of old) (taken ++ xs) new.machine new.tally) (sym whole) (f.stands taken st)

pub feed_takes : (old new : Reader) (piece taken : List ℕ) (result : Result (Unit {0}) Stop) → FeedTells told old new piece result → HasTaken old taken
    → OnOk result (HasTaken new (taken ++ piece))
feed_takes old new piece taken (Ok x) f st =
    subst (λ g. StandsFor (told g) (taken ++ piece) new.machine new.tally) (sym f.same) (stands_old old new piece taken f st)
feed_takes old new piece taken (Err why) f st = tt

pub feed_undecided : (old new : Reader) (piece taken : List ℕ) (result : Result (Unit {0}) Stop) → FeedTells told old new piece result → HasTaken old taken
    → OnOk result (DecideNothing (gate_of old) (taken ++ piece))
feed_undecided old new piece taken (Ok x) f st =
    stands_undecided (gate_of old) (taken ++ piece) new.machine new.tally (stands_old old new piece taken f st)
feed_undecided old new piece taken (Err why) f st = tt

-- ---- a piece that decides

taken_bytes : (gate : Gate) (bytes : List ℕ) (r : Seen) (tally : Tally) → StandsFor gate bytes r tally → IsBytes bytes
unfolding StandsFor
taken_bytes gate bytes r tally s = s.0.taken.all_bytes

front_of : (gate : Gate) (taken piece : List ℕ) (refusal : Refusal) → RefusesIn gate taken piece refusal → FrontRefused gate (taken ++ piece) refusal
front_of gate taken piece refusal r =
    let split : taken ++ piece ≡ (taken ++ take r.used piece) ++ drop r.used piece =
    ap (λ xs. taken ++ xs) (sym (take-append-drop r.used piece)) ∙ sym (append_assoc taken (take r.used piece) (drop r.used piece)) in
    front_refused gate (taken ++ take r.used piece) (drop r.used piece) (taken ++ piece) refusal split r.refused

prompt : (gate : Gate) (taken piece : List ℕ) (refusal : Refusal) → RefusesIn gate taken piece refusal → length taken < refusal.to_byte
prompt gate taken piece refusal r =
    let some = r.some in
    let all = r.refused.all in
    let n = length-append taken (take r.used piece) in
    let m = length-take-le r.used piece r.within in
    omega arith

decides : (filter : FilterView) (options : Options) (taken piece : List ℕ) (refusal : Refusal) → IsBytes (taken ++ piece)
    → RefusesIn (gate_of_filter filter options) taken piece refusal → DecidesIn filter options taken piece refusal
decides filter options taken piece refusal h r =
    let front = front_of (gate_of_filter filter options) taken piece refusal r in
    record {
      right = right_refuses filter options (taken ++ piece) refusal (inl front);
      first = right_first (gate_of_filter filter options) (taken ++ piece) refusal h (inl front);
      prompt = prompt (gate_of_filter filter options) taken piece refusal r;
      whole = refused_whole (gate_of_filter filter options) (taken ++ take r.used piece) refusal r.refused;
    }

pub feed_refused : (old new : Reader) (piece taken : List ℕ) (result : Result (Unit {0}) Stop) → IsBytes piece → FeedTells told old new piece result
    → HasTaken old taken → IfErr result (IfRefused (DecidesIn old.gate.filter old.gate.options taken piece))
unfolding StopsIn
feed_refused old new piece taken (Ok x) h f st = tt
feed_refused old new piece taken (Err (stop.Refused refusal)) h f st =
    decides old.gate.filter old.gate.options taken piece refusal (bytes_both taken piece (taken_bytes (gate_of old) taken old.machine old.tally st) h) (f taken st)
feed_refused old new piece taken (Err stop.OutOfMemory) h f st = tt
feed_refused old new piece taken (Err stop.Spent) h f st = f taken st

-- ---- the end

pub end_of : (old : Reader) (result : Result Totals Stop) (new : Seen) (taken : List ℕ) → EndTells (gate_of old) result old.machine old.tally new
    → HasTaken old taken → Ends (gate_of old) taken result new
unfolding EndTells
end_of old result new taken t st = t taken st

pub end_bytes : (old : Reader) (taken : List ℕ) → HasTaken old taken → IsBytes taken
end_bytes old taken st = taken_bytes (gate_of old) taken old.machine old.tally st
