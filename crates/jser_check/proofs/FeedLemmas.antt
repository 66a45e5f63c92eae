-- What a reader has taken, call after call.
use Rattle.std.proofs.Common.{◌≡◌, ℕ, List, ◌++◌, take, drop, Result, Ok, Err, inr, sym, ◌∙◌, ap, subst, append_assoc, append-nil, take-append-drop}
use Rattle.jser_grammar.specs.Parts.{IsBytes}
use Rattle.jser_verdict.specs.Gates.{Gate}
use Rattle.jser_verdict.proofs.ByteLists.{bytes_both, bytes_right}
use Rattle.jser_reader.specs.declared.Reason.TheVariants as reason
use Rattle.jser_reader.specs.declared.Stop.{Stop}
use Rattle.jser_reader.specs.declared.Stop.TheVariants as stop
use Rattle.jser_reader.specs.declared.Totals.{Totals}
use Rattle.jser_reader.specs.declared.tally.Tally.{Tally}
use Rattle.jser_reader.specs.Readers.{Seen}
use Rattle.jser_reader.specs.ReaderStates.{Reading, StandsFor, SkipTells, FinishTells}
use Rattle.jser_reader.specs.Answers.{IfRefused}
use Rattle.jser_reader.specs.Tallies.{whole_of}
use Rattle.jser_reader.specs.WholeContents.{IsWhole, StaysWhole}
use Rattle.jser_check.proofs.Feeding.{StopsIn, FeedTells, EndTells}

-- ---- a piece

pub feed_tells : {G : Type 0} (told : G → Gate) (old new : Reading G) (piece : List ℕ) (result : Result (Unit {0}) Stop) → new.gate ≡ old.gate
    → SkipTells (told old.gate) piece result old.machine old.tally new.machine new.tally → FeedTells told old new piece result
unfolding SkipTells StopsIn
feed_tells told old new piece (Ok x) same t =
    record { front = piece; split = sym (append-nil piece); same = same; stands = λ before st. t before st }
feed_tells told old new piece (Err (stop.Refused refusal)) same t = λ before st.
    let x = t before st in record { used = x.0; some = x.4; within = x.1; refused = x.2 }
feed_tells told old new piece (Err stop.OutOfMemory) same t = λ before st. tt
feed_tells told old new piece (Err stop.Spent) same t = λ before st. t before st

-- where it refuses bytes of the piece, so many of all bytes are whole contents
pub feed_whole : (gate : Gate) (piece taken : List ℕ) (why : Stop) (old : Seen) (before : Tally) (new : Seen) (after : Tally) → IsBytes piece
    → SkipTells gate piece (Err why) old before new after → StandsFor gate taken old before → IfRefused (λ _. StaysWhole gate (taken ++ piece) (whole_of new after)) why
unfolding SkipTells
feed_whole gate piece taken (stop.Refused refusal) old before new after h t st = λ more bytes.
    let x = t taken st in
    let rest : List ℕ = drop x.0 piece in
    let split : (taken ++ piece) ++ more ≡ (taken ++ take x.0 piece) ++ (rest ++ more) =
    ap (λ xs. (taken ++ xs) ++ more) (sym (take-append-drop x.0 piece)) ∙ ap (λ xs. xs ++ more) (sym (append_assoc taken (take x.0 piece) rest))
    ∙ append_assoc (taken ++ take x.0 piece) rest more in
    let left : IsBytes rest = bytes_right (take x.0 piece) rest (subst (λ z. IsBytes z) (sym (take-append-drop x.0 piece)) h) in
    subst (λ xs. IsWhole gate xs (whole_of new after)) (sym split) (x.5 (rest ++ more) (bytes_both rest more left bytes))
feed_whole gate piece taken stop.OutOfMemory old before new after h t st = tt
feed_whole gate piece taken stop.Spent old before new after h t st = absurd (t taken st)

-- ---- the end

pub finish_ends : (gate : Gate) (result : Result Totals Stop) (old : Seen) (tally : Tally) (new : Seen) → FinishTells gate result old tally new
    → EndTells gate result old tally new
unfolding FinishTells EndTells
finish_ends gate (Ok totals) old tally new t = λ taken st.
    let x = t taken st in record { tells = x.0; sure = λ e. absurd (cc); cut = λ refusal e. absurd (cc) }
finish_ends gate (Err (stop.Refused refusal)) old tally new t = λ taken st.
    let x = t taken st in record { tells = inr x.0; sure = λ e. absurd (cc); cut = λ other e. let same : refusal ≡ other = cc in subst (λ r. r.reason ≡ reason.Truncated) same x.0.is_named }
finish_ends gate (Err stop.OutOfMemory) old tally new t = λ taken st. absurd (t taken st)
finish_ends gate (Err stop.Spent) old tally new t = λ taken st. absurd (t taken st)
