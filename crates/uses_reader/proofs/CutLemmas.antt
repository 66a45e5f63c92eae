-- Bytes that are read in two pieces.
use Rattle.std.proofs.Common.{◌≡◌, ℕ, List, [], ◌++◌, length, take, drop, Result, Ok, Err, refl, sym, ap, subst, ◌∙◌, append_assoc, append-nil}
use Rattle.std.proofs.lemmas.List.{take-append-drop}
use Rattle.jser_grammar.specs.Parts.{IsBytes}
use Rattle.jser_grammar.specs.Trees.{ContentTrees}
use Rattle.jser_grammar.specs.Counts.{content_count, refs_of, depth_of, handle_count}
use Rattle.jser_reading.specs.ByteLaws.{OneReading}
use Rattle.jser_verdict.specs.Reasons.{truncated}
use Rattle.jser_verdict.specs.Gates.{Gate}
use Rattle.jser_verdict.specs.Passing.{Passes}
use Rattle.jser_verdict.specs.FirstFault.{IsFirstFault}
use Rattle.jser_verdict.specs.AnswerLaws.{OneFirstFault}
use Rattle.jser_reader.specs.declared.Refusal.{Refusal}
use Rattle.jser_reader.specs.declared.Stop.{Stop}
use Rattle.jser_reader.specs.declared.Stop.TheVariants as stop
use Rattle.jser_reader.specs.declared.Totals.{Totals}
use Rattle.jser_reader.specs.declared.tally.Tally.{Tally}
use Rattle.jser_reader.specs.Gates.{open_gate}
use Rattle.jser_reader.specs.Reasons.{named}
use Rattle.jser_reader.specs.Readers.{Seen}
use Rattle.jser_reader.specs.ReaderStates.{StandsFor, SkipCases, SkipTells, FinishTells, FinishCases}
use Rattle.jser_reader.specs.Streams.{AreRefused}
use Rattle.jser_reader.specs.Tallies.{AreTotals}
use Rattle.jser_verdict.proofs.ByteLists.{bytes_right}
use Rattle.uses_reader.specs.Answers.{IsRefusal, Answers, IsAnswerOf}

-- ---- a refusal of some first bytes is one of all

refused_all : (gate : Gate) (bytes piece rest : List ℕ) (used : ℕ) (refusal : Refusal) → IsBytes (bytes ++ (piece ++ rest))
    → AreRefused gate (bytes ++ take used piece) refusal → IsRefusal gate (bytes ++ (piece ++ rest)) refusal
refused_all gate bytes piece rest used refusal all r =
    let after = drop used piece ++ rest in
    let whole : (bytes ++ take used piece) ++ after ≡ bytes ++ (piece ++ rest) =
    append_assoc bytes (take used piece) after
    ∙ ap (λ xs. bytes ++ xs) (sym (append_assoc (take used piece) (drop used piece) rest) ∙ ap (λ xs. xs ++ rest) (take-append-drop used piece)) in
    let is : IsBytes after = bytes_right (bytes ++ take used piece) after (subst IsBytes (sym whole) all) in
    record {
      reason = r.reason;
      is_named = r.is_named;
      is_first = subst (λ xs. IsFirstFault gate xs refusal.from_byte refusal.to_byte r.reason) whole (r.is_first after is);
      none = λ list p. r.none_passes after list is (subst (λ xs. Passes gate xs list) (sym whole) p);
    }

refused_back : (gate : Gate) (bytes piece : List ℕ) (used : ℕ) (refusal : Refusal) → IsBytes (bytes ++ piece)
    → AreRefused gate (bytes ++ take used piece) refusal → IsRefusal gate (bytes ++ piece) refusal
refused_back gate bytes piece used refusal all r =
    let same : bytes ++ (piece ++ []) ≡ bytes ++ piece = ap (λ xs. bytes ++ xs) (append-nil piece) in
    subst (λ xs. IsRefusal gate xs refusal) same (refused_all gate bytes piece [] used refusal (subst IsBytes (sym same) all) r)

-- ---- the three calls

pub front_stops : (gate : Gate) (front back : List ℕ) (result : Result (Unit {0}) Stop) (why : Stop) (old new : Seen) (before after : Tally)
    → IsBytes (front ++ back) → StandsFor gate [] old before → SkipTells gate front result old before new after → result ≡ Err why
    → Answers gate (front ++ back) (Err why)
unfolding SkipTells
front_stops gate front back result why old new before after all st tells is =
    by why (subst (λ r. SkipCases gate [] front r new after) is (tells [] st))
  where
    by : (why : Stop) → SkipCases gate [] front (Err why) new after → Answers gate (front ++ back) (Err why)
    by (stop.Refused refusal) c = refused_all gate [] front back c.0 refusal all c.2
    by stop.OutOfMemory c = tt
    by stop.Spent c = c

pub back_stops : (gate : Gate) (front back : List ℕ) (first second : Result (Unit {0}) Stop) (why : Stop) (old mid new : Seen) (before between after : Tally)
    → IsBytes (front ++ back) → StandsFor gate [] old before → SkipTells gate front first old before mid between → first ≡ Ok tt
    → SkipTells gate back second mid between new after → second ≡ Err why → Answers gate (front ++ back) (Err why)
unfolding SkipTells
back_stops gate front back first second why old mid new before between after all st skips is tells fails =
    by why (subst (λ r. SkipCases gate front back r new after) fails (tells front (subst (λ r. SkipCases gate [] front r mid between) is (skips [] st))))
  where
    by : (why : Stop) → SkipCases gate front back (Err why) new after → Answers gate (front ++ back) (Err why)
    by (stop.Refused refusal) c = refused_back gate front back c.0 refusal all c.2
    by stop.OutOfMemory c = tt
    by stop.Spent c = c

pub finishes : (gate : Gate) (front back : List ℕ) (first second : Result (Unit {0}) Stop) (result : Result Totals Stop) (old mid last new : Seen)
    (before between after : Tally) → StandsFor gate [] old before → SkipTells gate front first old before mid between → first ≡ Ok tt
    → SkipTells gate back second mid between last after → second ≡ Ok tt → FinishTells gate result last after new → Answers gate (front ++ back) result
unfolding SkipTells FinishTells
finishes gate front back first second result old mid last new before between after st skips is tells also ends =
    by result (ends (front ++ back) (subst (λ r. SkipCases gate front back r last after) also (tells front (subst (λ r. SkipCases gate [] front r mid between) is (skips [] st)))))
  where
    by : (result : Result Totals Stop) → FinishCases gate (front ++ back) result new → Answers gate (front ++ back) result
    by (Ok totals) c = c.0
    by (Err (stop.Refused refusal)) c =
        record { reason = truncated; is_named = c.0.is_named; is_first = c.0.is_first; none = c.0.none_passes }
    by (Err stop.OutOfMemory) c = absurd c
    by (Err stop.Spent) c = absurd c

pub both_bytes : (bytes front back : List ℕ) (n : ℕ) → front ≡ take n bytes → back ≡ drop n bytes → IsBytes bytes → IsBytes (front ++ back)
both_bytes bytes front back n f b all =
    subst IsBytes (sym (ap (λ xs. xs ++ back) f ∙ ap (λ xs. take n bytes ++ xs) b ∙ take-append-drop n bytes)) all

pub of_both : (gate : Gate) (bytes front back : List ℕ) (result : Result Totals Stop) → bytes ≡ front ++ back → Answers gate (front ++ back) result
    → Answers gate bytes result
of_both gate bytes front back result is answers = subst (λ xs. Answers gate xs result) (sym is) answers

-- ---- the same

counts_of : List ℕ → ContentTrees → Totals
counts_of bytes list =
    record { bytes = length bytes; contents = content_count list; refs = refs_of list; depth = depth_of list; handles = handle_count list }

totals_are : (bytes : List ℕ) (list : ContentTrees) (t : Totals) → AreTotals bytes list t → t ≡ counts_of bytes list
unfolding counts_of
totals_are bytes list t is =
    ap (λ n. record { bytes = n; contents = t.contents; refs = t.refs; depth = t.depth; handles = t.handles }) is.all_bytes
    ∙ ap (λ n. record { bytes = length bytes; contents = n; refs = t.refs; depth = t.depth; handles = t.handles }) is.contents
    ∙ ap (λ n. record { bytes = length bytes; contents = content_count list; refs = n; depth = t.depth; handles = t.handles }) is.refs
    ∙ ap (λ n. record { bytes = length bytes; contents = content_count list; refs = refs_of list; depth = n; handles = t.handles }) is.depth
    ∙ ap (λ n. record { bytes = length bytes; contents = content_count list; refs = refs_of list; depth = depth_of list; handles = n }) is.handles

refusals_same : OneFirstFault → (gate : Gate) (bytes : List ℕ) (refusal other : Refusal) → IsRefusal gate bytes refusal → IsRefusal gate bytes other
    → refusal ≡ other
refusals_same one gate bytes refusal other a b =
    let same = one gate bytes refusal.from_byte refusal.to_byte other.from_byte other.to_byte a.reason b.reason a.is_first b.is_first in
    ap (λ n. record { from_byte = n; to_byte = refusal.to_byte; reason = refusal.reason }) same.0
    ∙ ap (λ n. record { from_byte = other.from_byte; to_byte = n; reason = refusal.reason }) same.1
    ∙ ap (λ r. record { from_byte = other.from_byte; to_byte = other.to_byte; reason = r }) (a.is_named ∙ ap named same.2 ∙ sym b.is_named)

pub totals_again : OneReading → (bytes : List ℕ) (answer : Result Totals Stop) (totals : Totals) → IsAnswerOf open_gate bytes answer
    → Answers open_gate bytes (Ok totals) → answer ≡ Ok totals
totals_again one bytes (Ok t) u a b =
    ap Ok (totals_are bytes a.0.0 t a.0.2 ∙ ap (counts_of bytes) (one bytes a.0.0 b.0 a.0.1.0 b.1.0) ∙ sym (totals_are bytes b.0 u b.2))
totals_again one bytes (Err (stop.Refused r)) u a b = absurd (a.0.none b.0 b.1)
totals_again one bytes (Err stop.OutOfMemory) u a b = absurd (a.1 refl)
totals_again one bytes (Err stop.Spent) u a b = absurd a.0

pub refused_again : OneFirstFault → (bytes : List ℕ) (answer : Result Totals Stop) (refusal : Refusal) → IsAnswerOf open_gate bytes answer
    → Answers open_gate bytes (Err (stop.Refused refusal)) → answer ≡ Err (stop.Refused refusal)
refused_again first bytes (Ok t) s a b = absurd (b.none a.0.0 a.0.1)
refused_again first bytes (Err (stop.Refused r)) s a b = ap (λ x. Err (stop.Refused x)) (refusals_same first open_gate bytes r s a.0 b)
refused_again first bytes (Err stop.OutOfMemory) s a b = absurd (a.1 refl)
refused_again first bytes (Err stop.Spent) s a b = absurd a.0
