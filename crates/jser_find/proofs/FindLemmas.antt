-- How many bytes are whole contents, and how many decide that, where all were given at once.
use Rattle.std.proofs.Common.{◌≡◌, refl, ℕ, ◌-◌, Bool, true, false, ◌&&◌, nat_le, if◌then◌else◌, List, [], ◌++◌, length, take, drop, Ok, Err, sym, ap, ◌∙◌, subst, append-nil, le-leb}
use Rattle.std.proofs.lemmas.List.{take-append-drop}
use Rattle.jser_reading.specs.Goals.{State, settled}
use Rattle.jser_reading.specs.Machine.{begin_state}
use Rattle.jser_reading.specs.Scanner.{Outcome, ended, walk}
use Rattle.jser_verdict.specs.Answers.{accepted, refused_at, is_none, is_top, told_over, told_whole}
use Rattle.jser_verdict.specs.FirstFault.{IsFirstFault}
use Rattle.jser_verdict.specs.Reasons.{truncated}
use Rattle.jser_verdict.specs.Verdicts.{verdict}
use Rattle.jser_verdict.proofs.AnswerLaws.{refuses_first_fault}
use Rattle.jser_verdict.proofs.ByteLists.{bytes_right}
use Rattle.jser_reader.specs.Gates.{open_gate}
use Rattle.jser_find.specs.Budgets.{decided, deciding, deciding_by}
use Rattle.jser_find.proofs.DecidingLemmas.{some_decide}
use Rattle.jser_grammar.specs.Parts.{IsBytes}
use Rattle.jser_verdict.specs.Gates.{Gate}
use Rattle.jser_reader.specs.declared.Refusal.{Refusal}
use Rattle.jser_reader.specs.declared.Stop.TheVariants as stop
use Rattle.jser_reader.specs.declared.tally.Tally.{Tally}
use Rattle.jser_reader.specs.Readers.{Seen}
use Rattle.jser_reader.specs.ReaderStates.{StandsFor, SkipTells, WholeTold}
use Rattle.jser_reader.specs.Tallies.{whole_of}
use Rattle.jser_reader.specs.WholeContents.{IsWhole, StaysWhole}
use Rattle.jser_check.proofs.FeedLemmas.{feed_whole}

pub all_taken : (gate : Gate) (bytes : List ℕ) (n : ℕ) (old : Seen) (before : Tally) (new : Seen) (after : Tally)
    → SkipTells gate bytes (Ok tt) old before new after → StandsFor gate [] old before → WholeTold gate n new after → IsWhole gate bytes n
unfolding SkipTells WholeTold
all_taken gate bytes n old before new after skipped stands told = told bytes (skipped [] stands)

no_bytes : IsBytes []
no_bytes = refl

pub sure_taken : (gate : Gate) (bytes : List ℕ) (n : ℕ) (refusal : Refusal) (old : Seen) (before : Tally) (new : Seen) (after : Tally) → IsBytes bytes
    → SkipTells gate bytes (Err (stop.Refused refusal)) old before new after → StandsFor gate [] old before → n ≡ whole_of new after → StaysWhole gate bytes n
sure_taken gate bytes n refusal old before new after are skipped stands is =
    subst (λ m. StaysWhole gate bytes m) (sym is) (feed_whole gate bytes [] (stop.Refused refusal) old before new after are skipped stands)

pub some_taken : (gate : Gate) (bytes : List ℕ) (n : ℕ) (refusal : Refusal) (old : Seen) (before : Tally) (new : Seen) (after : Tally) → IsBytes bytes
    → SkipTells gate bytes (Err (stop.Refused refusal)) old before new after → StandsFor gate [] old before → n ≡ whole_of new after → IsWhole gate bytes n
some_taken gate bytes n refusal old before new after are skipped stands is =
    subst (λ m. IsWhole gate bytes m) (sym is)
    (subst (λ xs. IsWhole gate xs (whole_of new after)) (append-nil bytes) (feed_whole gate bytes [] (stop.Refused refusal) old before new after are skipped stands [] no_bytes))

-- ---- how many bytes decide

told_ended : (n : ℕ) (out : Outcome) (s : State) (cut : List ℕ) → out ≡ ended s cut → decided n (told_whole n out) ≡ n
told_ended n out s cut e = subst (λ o. decided n (told_whole n o) ≡ n) (sym e) (by (is_top (settled s).1 && is_none cut))
  where
    by : (whole : Bool) → decided n (if whole then accepted else refused_at (n - length cut) n truncated) ≡ n
    by true = refl
    by false = refl

stands_read : (bytes : List ℕ) (r : Seen) (tally : Tally) → StandsFor open_gate bytes r tally → length bytes ≡ deciding bytes
unfolding StandsFor deciding_by
stands_read bytes r tally st =
    let few : nat_le (length bytes) open_gate.bytes ≡ true = le-leb (length bytes) open_gate.bytes st.1 in
    let walked = st.0.taken.walked in
    sym (ap (λ b. decided (length bytes)
    (if b then told_whole (length bytes) (walk (verdict open_gate) begin_state [] bytes)
    else told_over open_gate.bytes (walk (verdict open_gate) begin_state [] (take open_gate.bytes bytes)))) few
    ∙ told_ended (length bytes) (walk (verdict open_gate) begin_state [] bytes) _ _ walked)

pub all_read : (bytes : List ℕ) (old : Seen) (before : Tally) (new : Seen) (after : Tally) → SkipTells open_gate bytes (Ok tt) old before new after
    → StandsFor open_gate [] old before → length bytes ≡ deciding bytes
unfolding SkipTells
all_read bytes old before new after skipped stands = stands_read bytes new after (skipped [] stands)

pub some_read : (bytes : List ℕ) (refusal : Refusal) (old : Seen) (before : Tally) (new : Seen) (after : Tally) → IsBytes bytes
    → SkipTells open_gate bytes (Err (stop.Refused refusal)) old before new after → StandsFor open_gate [] old before → refusal.to_byte ≡ deciding bytes
unfolding SkipTells
some_read bytes refusal old before new after are skipped stands =
    let x = skipped [] stands in
    let split : take x.0 bytes ++ drop x.0 bytes ≡ bytes = take-append-drop x.0 bytes in
    let right : IsBytes (drop x.0 bytes) = bytes_right (take x.0 bytes) (drop x.0 bytes) (subst IsBytes (sym split) are) in
    let first : IsFirstFault open_gate bytes refusal.from_byte refusal.to_byte x.2.reason =
    subst (λ xs. IsFirstFault open_gate xs refusal.from_byte refusal.to_byte x.2.reason) split (x.2.is_first (drop x.0 bytes) right) in
    sym (some_decide open_gate bytes refusal.from_byte refusal.to_byte x.2.reason
    ((refuses_first_fault open_gate bytes refusal.from_byte refusal.to_byte x.2.reason are).1 first))
