-- What a reader answers to a piece, and at the end.
use Rattle.std.proofs.Common.{◌≡◌, ℕ, suc, ◌+◌, ◌<◌, ◌≤◌, ◌^◌, List, [], ◌∷◌, ◌++◌, length, take, get_or, false, Result, Ok, Err, refl, sym, ◌∙◌, ap, subst, arith, append-nil, length-append, length-take-le}
use Rattle.jser_grammar.specs.Parts.{IsBytes}
use Rattle.jser_reading.specs.Machine.{left, begin_state}
use Rattle.jser_reading.specs.Goals.{settled}
use Rattle.jser_verdict.specs.Gates.{Gate, IsGate}
use Rattle.jser_reader.specs.declared.machine.flow.Flow.TheVariants as flow
use Rattle.jser_reader.specs.declared.item.Step.{Step}
use Rattle.jser_reader.specs.declared.item.Totals.{Totals}
use Rattle.jser_reader.specs.declared.item.Step.TheVariants as step
use Rattle.jser_reader.specs.declared.phase.Phase.{Phase}
use Rattle.jser_reader.specs.declared.phase.Phase.TheVariants as phase
use Rattle.jser_reader.specs.declared.refusal.Reason.TheVariants as reason
use Rattle.jser_reader.specs.declared.refusal.Refusal.{Refusal}
use Rattle.jser_reader.specs.declared.refusal.Stop.{Stop}
use Rattle.jser_reader.specs.declared.refusal.Stop.TheVariants as stop
use Rattle.jser_reader.specs.Readers.{Seen}
use Rattle.jser_reader.specs.Handlers.{StopsWith, refusal}
use Rattle.jser_reader.specs.declared.gate.Limits.{Limits}
use Rattle.jser_reader.specs.Gates.{AreLimitsOf}
use Rattle.jser_reader.specs.Walks.{size_of_phase, IsNew, gate_with, Takes, Keeps, StandsAt, open_in, cut_of}
use Rattle.jser_reader.specs.declared.tally.Tally.{Tally}
use Rattle.jser_reader.specs.Tallies.{no_tally, may_count, begun_next, tally_next, CountsNext, tally_stopped, whole_of, HasCounted, totals_of, AreTotals}
use Rattle.jser_reader.specs.Takes.{IsPart, TakenCases, TakesFromFor}
use Rattle.jser_reader.specs.declared.machine.take.taken.Taken.{Taken}
use Rattle.jser_reader.specs.declared.machine.take.taken.Taken.TheVariants as taken
use Rattle.jser_reader.specs.States.{HasLimits, IsWithin, AnswersStop, stop_after, exceeded}
use Rattle.jser_reader.specs.ReaderStates.{IsItem, HasProgress, StandsFor, HasRefused, IsSpent, NextCases, NextTells, StaysStopped, FinishCases, FinishTells, WholeTold, WholeAtEnd, KeepsWhole}
use Rattle.jser_reader.specs.WholeContents.{IsWhole, StaysWhole}
use Rattle.jser_reader.proofs.WalkLemmas.{kept_none}
use Rattle.jser_reader.proofs.StreamWalks.{ends_only_at_top}
use Rattle.jser_reader.proofs.AnswerLemmas.{truncates}
use Rattle.jser_reader.proofs.CountLemmas.{new_counts, counts_within, counts_fit}
use Rattle.jser_reader.proofs.TotalLemmas.{first_taken, token_counts, goes_on_counts, finish_totals}
use Rattle.jser_reader.proofs.ReaderLemmas.{token_stops, never_spent, has_stopped, over, over_whole, limit_is, take_whole, bytes_front, front_of_front}
use Rattle.jser_reader.proofs.WholeContentLemmas.{stopped_whole, whole_stopped, whole_below}

-- ---- items, and more bytes

pub is_taken : (gate : Gate) (used : ℕ) (took : Taken) (front : List ℕ) (old new : Seen) → TakesFromFor gate took front old new → took ≡ taken.Ended used → used ≤ length front
unfolding TakesFromFor
is_taken gate used took front old new h e = (subst (λ x. TakenCases gate x front old new) e h).1

pub is_part : (gate : Gate) (used : ℕ) (took : Taken) (front : List ℕ) (old new : Seen) → TakesFromFor gate took front old new → took ≡ taken.Part used → used ≤ length front
unfolding TakesFromFor
is_part gate used took front old new h e = (subst (λ x. TakenCases gate x front old new) e h).1

pub next_item : (result : Step) (used : ℕ) (piece front : List ℕ) (gate : Gate) (old new : Seen) (before after : Tally) → IsWithin old piece front → IsBytes piece → 0 < used
    → used ≤ length front → Takes gate (take used front) flow.On old new → CountsNext old (get_or front 0 0) before after → IsGate gate → IsItem used result
    → NextTells gate piece (Ok result) old before new after
unfolding NextTells StandsFor
next_item step.More used piece front gate old new before after w h some le t k g i = absurd i
next_item (step.Item item count) used piece front gate old new before after w h some le t k g i = λ bytes st.
    let x = token_counts gate bytes piece front used old new before w le h t st.0 st.1 in
    let s = w.short in
    let fit = counts_fit gate bytes old before st.0 st.1 g in
    let same : after ≡ tally_next old (get_or (take used piece) 0 0) before =
    k fit.0 (fit.1 _) ∙ ap (λ b. tally_next old b before) (sym (first_taken old piece front used w le some)) in (
      omega arith,
      omega arith,
      subst (λ n. HasCounted gate (bytes ++ take n piece) new after × (length (bytes ++ take n piece) ≤ gate.bytes)) (sym i)
          (subst (λ a. HasCounted gate (bytes ++ take used piece) new a × (length (bytes ++ take used piece) ≤ gate.bytes)) (sym same) x),
    )

pub next_part : (result : Step) (used : ℕ) (piece front : List ℕ) (gate : Gate) (old new : Seen) (tally : Tally) → IsWithin old piece front → IsBytes piece → 0 < used
    → used ≤ length front → Keeps gate (take used front) old new → IsItem used result → NextTells gate piece (Ok result) old tally new tally
unfolding NextTells StandsFor
next_part step.More used piece front gate old new tally w h some le t i = absurd i
next_part (step.Item item count) used piece front gate old new tally w h some le t i = λ bytes st.
    let x = goes_on_counts gate bytes piece front used old new tally w le h t st.0 st.1 in
    let s = w.short in
    (omega arith, omega arith, subst (λ n. HasCounted gate (bytes ++ take n piece) new tally × (length (bytes ++ take n piece) ≤ gate.bytes)) (sym i) x)

pub next_more : (piece front : List ℕ) (gate : Gate) (old new : Seen) (tally : Tally) → IsWithin old piece front → IsBytes piece → (length front < length piece → ⊥)
    → Keeps gate front old new → NextTells gate piece (Ok step.More) old tally new tally
unfolding NextTells StandsFor
next_more piece front gate old new tally w h long k = λ bytes st.
    let s = w.short in
    let n : length front ≡ length piece = omega arith in
    let t : take (length front) front ≡ front = take_whole front in
    let x = goes_on_counts gate bytes piece front (length front) old new tally w (omega arith) h (subst (λ xs. Keeps gate xs old new) (sym t) k) st.0 st.1 in
    let e : take (length front) piece ≡ piece = ap (λ k. take k piece) n ∙ take_whole piece in
    subst (λ xs. HasCounted gate (bytes ++ xs) new tally × (length (bytes ++ xs) ≤ gate.bytes)) e x

pub next_none : (piece : List ℕ) (gate : Gate) (r : Seen) (tally : Tally) → length piece ≡ 0 → NextTells gate piece (Ok step.More) r tally r tally
unfolding NextTells
next_none (b ∷ piece) gate r tally e = absurd (omega arith)
next_none [] gate r tally e = λ bytes st. subst (λ xs. StandsFor gate xs r tally) (sym (append-nil bytes)) st

-- ---- stops

spent_after : (r : Seen) (why : Stop) → r.phase ≡ phase.Stopped → r.meter.stop ≡ stop_after why → why ≡ stop.OutOfMemory → (r.phase ≡ phase.Stopped) × (r.meter.stop ≡ stop.Spent)
spent_after r why ep es e = (ep, es ∙ ap stop_after e)

pub next_stops : (why : Stop) (used : ℕ) (piece front : List ℕ) (gate : Gate) (old mid new : Seen) (before after : Tally) → IsWithin old piece front → IsBytes piece → 0 < used → used ≤ length front
    → Takes gate (take used front) flow.Stopped old mid → AnswersStop why mid new → after.begun ≡ begun_next old before → NextTells gate piece (Err why) old before new after
unfolding NextTells StandsFor HasRefused IsSpent
next_stops why used piece front gate old mid new before after w h some le t a ea = λ bytes st. go bytes st.0 st.1 why refl
  where
    go : (bytes : List ℕ) → HasCounted gate bytes old before → length bytes ≤ gate.bytes → (y : Stop) → why ≡ y → NextCases gate bytes piece (Err y) new after
    go bytes st room (stop.Refused refusal) e =
        let es : mid.meter.stop ≡ stop.Refused refusal = sym a.is ∙ e in
        let ep = has_stopped gate bytes (take used front) old mid t st.taken in
        let x = token_stops gate bytes piece front used refusal old mid w le h t st.taken room es in
        let s = w.short in
        let whole : StaysWhole gate (bytes ++ take used piece) after.begun =
        stopped_whole gate old mid bytes (take used piece) refusal after.begun (subst (λ xs. Takes gate xs flow.Stopped old mid) (front_of_front old piece front used w le) t) es
        (bytes_front used piece h) st.taken (subst (IsWhole gate bytes) (sym ea) (st.whole room)) in (
          used,
          omega arith,
          x,
          (a.phase ∙ ep, a.stop_is ∙ ap stop_after es),
          some,
          subst (StaysWhole gate (bytes ++ take used piece)) (sym (whole_stopped new after (a.phase ∙ ep))) whole,
        )
    go bytes st room stop.OutOfMemory e =
        let es : mid.meter.stop ≡ stop.OutOfMemory = sym a.is ∙ e in
        let ep = has_stopped gate bytes (take used front) old mid t st.taken in
        spent_after new mid.meter.stop (a.phase ∙ ep) a.stop_is es
    go bytes st room stop.Spent e = never_spent gate bytes (take used front) old mid t st.taken (sym a.is ∙ e)

-- the limit was reached, and the piece has a byte more
pub next_over : (why : Stop) (piece front : List ℕ) (gate : Gate) (old mid new : Seen) (before after : Tally) → IsWithin old piece front → IsBytes piece → length front < length piece
    → Keeps gate front old mid
    → (mid.meter.at + 1 < 2 ^ 64 → (why ≡ exceeded mid.meter) × StopsWith (exceeded mid.meter) mid new)
    → IsGate gate → after ≡ tally_stopped mid before → NextTells gate piece (Err why) old before new after
unfolding NextTells StandsFor HasRefused
next_over why piece front gate old mid new before after w h more k x g ea = λ bytes st.
    let t : take (length front) front ≡ front = take_whole front in
    let y = goes_on_counts gate bytes piece front (length front) old mid before w (omega arith) h (subst (λ xs. Keeps gate xs old mid) (sym t) k) st.0 st.1 in
    let full = w.full more in
    let at = y.0.taken.taken in
    let cap = g.0 in
    let le = y.1 in
    let m = limit_is gate bytes old st.0.taken in
    let a = st.0.taken.taken in
    let n = length-append bytes (take (length front) piece) in
    let j = length-take-le (length front) piece w.short in
    let z = x (omega arith) in
    let told : Refusal = record { from_byte = mid.meter.from; to_byte = mid.meter.at + 1; reason = reason.BytesExceeded } in
    let refused = over gate bytes piece (length front) mid y.0.taken more (omega arith) h told refl in
    let whole = over_whole gate bytes piece (length front) (whole_of mid before) more (omega arith) (y.0.whole y.1) in
    subst (λ s. NextCases gate bytes piece (Err s) new after) (sym z.0) (
      suc (length front),
      omega arith,
      refused,
      (z.1.phase, z.1.stop),
      omega arith,
      subst (StaysWhole gate (bytes ++ take (suc (length front)) piece)) (sym (ap (λ x. x.begun) ea) ∙ sym (whole_stopped new after z.1.phase)) whole,
    )

pub next_full : (why : Stop) (piece front : List ℕ) (gate : Gate) (old new : Seen) (before after : Tally) → IsWithin old piece front → IsBytes piece → length front ≡ 0 → 0 < length piece
    → (old.meter.at + 1 < 2 ^ 64 → (why ≡ exceeded old.meter) × StopsWith (exceeded old.meter) old new)
    → IsGate gate → after ≡ tally_stopped old before → NextTells gate piece (Err why) old before new after
next_full why piece front gate old new before after w h none some x g ea =
    next_over why piece front gate old old new before after w h (omega arith) (no_bytes_kept front none) x g ea
  where
    no_bytes_kept : (xs : List ℕ) → length xs ≡ 0 → Keeps gate xs old old
    no_bytes_kept [] e = kept_none gate old
    no_bytes_kept (b ∷ xs) e = absurd (omega arith)

-- ---- the same of what came of a piece

pub step_item : (result : Step) (used : ℕ) (took : Taken) (piece front : List ℕ) (gate : Gate) (old new : Seen) (before after : Tally) → TakesFromFor gate took front old new
    → took ≡ taken.Ended used → CountsNext old (get_or front 0 0) before after → IsGate gate → IsWithin old piece front → IsBytes piece → IsItem used result
    → NextTells gate piece (Ok result) old before new after
unfolding TakesFromFor
step_item result used took piece front gate old new before after k e c g w h i =
    let t = subst (λ x. TakenCases gate x front old new) e k in next_item result used piece front gate old new before after w h t.0 t.1 t.2 c g i

-- a tag with which counts may change does not stay open

part_quiet : (p cut_phase : Phase) (kept piece : List ℕ) (count : ℕ) → IsPart (open_in p cut_phase) kept piece count → may_count p ≡ false
part_quiet phase.Top cut_phase kept piece count h = absurd h
part_quiet phase.Note cut_phase kept piece count h = absurd h
part_quiet phase.Value cut_phase kept piece count h = absurd h
part_quiet phase.SuperTag cut_phase kept piece count h = absurd h
part_quiet phase.Stopped cut_phase kept piece count h = absurd h
part_quiet _ cut_phase kept piece count h = refl

open_quiet : (p cut_phase : Phase) → 1 < size_of_phase (open_in p cut_phase) → may_count p ≡ false
open_quiet phase.Top cut_phase h = absurd (omega arith)
open_quiet phase.Note cut_phase h = absurd (omega arith)
open_quiet phase.Value cut_phase h = absurd (omega arith)
open_quiet phase.SuperTag cut_phase h = absurd (omega arith)
open_quiet phase.Stopped cut_phase h = absurd (omega arith)
open_quiet _ cut_phase h = refl

pub kept_open : (took : Taken) (front : List ℕ) (gate : Gate) (old new : Seen) (before after : Tally) → TakesFromFor gate took front old new → took ≡ taken.Open
    → (may_count old.phase ≡ false → after ≡ before) → after ≡ before
unfolding TakesFromFor
kept_open took front gate old new before after k e q = q (open_quiet old.phase old.meter.cut_phase (subst (λ x. TakenCases gate x front old new) e k).1.some)

pub kept_part : (used : ℕ) (took : Taken) (front : List ℕ) (gate : Gate) (old new : Seen) (before after : Tally) → TakesFromFor gate took front old new → took ≡ taken.Part used
    → (may_count old.phase ≡ false → after ≡ before) → after ≡ before
unfolding TakesFromFor
kept_part used took front gate old new before after k e q =
    q (part_quiet old.phase old.meter.cut_phase (cut_of old) front used (subst (λ x. TakenCases gate x front old new) e k).3)

pub step_part : (result : Step) (used : ℕ) (took : Taken) (piece front : List ℕ) (gate : Gate) (old new : Seen) (before after : Tally) → TakesFromFor gate took front old new
    → took ≡ taken.Part used → (may_count old.phase ≡ false → after ≡ before) → IsWithin old piece front → IsBytes piece → IsItem used result → NextTells gate piece (Ok result) old before new after
unfolding TakesFromFor
step_part result used took piece front gate old new before after k e q w h i =
    let t = subst (λ x. TakenCases gate x front old new) e k in
    subst (NextTells gate piece (Ok result) old before new) (sym (kept_part used took front gate old new before after k e q)) (next_part result used piece front gate old new before w h t.0 t.1 t.2 i)

pub step_more : (took : Taken) (piece front : List ℕ) (gate : Gate) (old new : Seen) (before after : Tally) → TakesFromFor gate took front old new → took ≡ taken.Open
    → (may_count old.phase ≡ false → after ≡ before) → IsWithin old piece front → IsBytes piece → (length front < length piece → ⊥) → NextTells gate piece (Ok step.More) old before new after
unfolding TakesFromFor
step_more took piece front gate old new before after k e q w h long =
    subst (NextTells gate piece (Ok step.More) old before new) (sym (kept_open took front gate old new before after k e q))
    (next_more piece front gate old new before w h long (subst (λ x. TakenCases gate x front old new) e k).0)

pub step_stops : (why : Stop) (used : ℕ) (took : Taken) (piece front : List ℕ) (gate : Gate) (old mid new : Seen) (before after : Tally) → TakesFromFor gate took front old mid
    → took ≡ taken.Stopped used → AnswersStop why mid new → IsWithin old piece front → IsBytes piece → after.begun ≡ begun_next old before
    → NextTells gate piece (Err why) old before new after
unfolding TakesFromFor
step_stops why used took piece front gate old mid new before after k e a w h ea =
    let t = subst (λ x. TakenCases gate x front old mid) e k in next_stops why used piece front gate old mid new before after w h t.0 t.1 t.2 a ea

pub step_over : (why : Stop) (took : Taken) (piece front : List ℕ) (gate : Gate) (old mid new : Seen) (before between after : Tally) → TakesFromFor gate took front old mid
    → took ≡ taken.Open → (may_count old.phase ≡ false → between ≡ before) → (mid.meter.at + 1 < 2 ^ 64 → (why ≡ exceeded mid.meter) × StopsWith (exceeded mid.meter) mid new)
    → IsWithin old piece front → IsBytes piece → length front < length piece → IsGate gate → after ≡ tally_stopped mid between
    → NextTells gate piece (Err why) old before new after
unfolding TakesFromFor
step_over why took piece front gate old mid new before between after k e q x w h more g ea =
    subst (λ t. NextTells gate piece (Err why) old t new after) (kept_open took front gate old mid before between k e q)
    (next_over why piece front gate old mid new between after w h more (subst (λ x. TakenCases gate x front old mid) e k).0 x g ea)

pub item_progress : (result : Step) (used : ℕ) (took : Taken) (piece front : List ℕ) (gate : Gate) (old new : Seen) → TakesFromFor gate took front old new
    → took ≡ taken.Ended used → IsWithin old piece front → IsItem used result → HasProgress piece result
unfolding TakesFromFor
item_progress step.More used took piece front gate old new k e w i = absurd i
item_progress (step.Item item count) used took piece front gate old new k e w i =
    let t = subst (λ x. TakenCases gate x front old new) e k in
    let some = t.0 in
    let le = t.1 in
    let s = w.short in
    (omega arith, omega arith)

pub part_progress : (result : Step) (used : ℕ) (took : Taken) (piece front : List ℕ) (gate : Gate) (old new : Seen) → TakesFromFor gate took front old new
    → took ≡ taken.Part used → IsWithin old piece front → IsItem used result → HasProgress piece result
unfolding TakesFromFor
part_progress step.More used took piece front gate old new k e w i = absurd i
part_progress (step.Item item count) used took piece front gate old new k e w i =
    let t = subst (λ x. TakenCases gate x front old new) e k in
    let some = t.0 in
    let le = t.1 in
    let s = w.short in
    (omega arith, omega arith)

-- ---- a reader that has stopped

pub no_bytes : (gate : Gate) (bytes : List ℕ) (r : Seen) (tally : Tally) → r.phase ≡ phase.Stopped → StandsFor gate bytes r tally → ⊥
unfolding StandsFor
no_bytes gate bytes r tally e st = subst (λ p. StandsAt p r (settled (left begin_state st.0.taken.tokens)) st.0.taken.cut) e st.0.taken.stands.stands

pub stopped_tells : (piece : List ℕ) (why : Stop) (gate : Gate) (old new : Seen) (before after : Tally) → old.phase ≡ phase.Stopped → NextTells gate piece (Err why) old before new after
unfolding NextTells
stopped_tells piece why gate old new before after e = λ bytes st. absurd (no_bytes gate bytes old before e st)

pub stays_stopped : (A : Type 0) (why : Stop) (old new : Seen) → old.phase ≡ phase.Stopped → AnswersStop why old new
    → StaysStopped {A = A} (Err why) old new
unfolding StaysStopped HasRefused IsSpent
stays_stopped A why old new e a = (
  λ refusal h. (ap (λ s. Err s) (a.is ∙ h.1), (a.phase ∙ e, a.stop_is ∙ ap stop_after h.1)),
  λ h. (ap (λ s. Err s) (a.is ∙ h.1), (a.phase ∙ e, a.stop_is ∙ ap stop_after h.1)),
)

pub not_stopped : {A : Type 0} (result : Result A Stop) (old new : Seen) → (old.phase ≡ phase.Stopped → ⊥) → StaysStopped result old new
unfolding StaysStopped HasRefused IsSpent
not_stopped result old new n = (λ refusal h. absurd (n h.0), λ h. absurd (n h.0))

-- it says no other number
pub keeps_stopped : (why : Stop) (old new : Seen) (before after : Tally) → old.phase ≡ phase.Stopped → AnswersStop why old new → after ≡ before → KeepsWhole old before new after
unfolding KeepsWhole
keeps_stopped why old new before after e a same = λ _. whole_stopped new after (a.phase ∙ e) ∙ ap (λ t. t.begun) same ∙ sym (whole_stopped old before e)

pub keeps_going : (old new : Seen) (before after : Tally) → (old.phase ≡ phase.Stopped → ⊥) → KeepsWhole old before new after
unfolding KeepsWhole
keeps_going old new before after n = λ e. absurd (n e)

-- ---- how many bytes are whole contents

pub whole_known : (gate : Gate) (n : ℕ) (r : Seen) (tally : Tally) → n ≡ whole_of r tally → WholeTold gate n r tally
unfolding WholeTold StandsFor
whole_known gate n r tally e = λ bytes st. subst (IsWhole gate bytes) (sym e) (st.0.whole st.1)

pub whole_at_end : (gate : Gate) (why : Stop) (old new : Seen) (before after : Tally) → StopsWith why old new → after ≡ tally_stopped old before → WholeAtEnd gate old before new after
unfolding WholeAtEnd StandsFor
whole_at_end gate why old new before after h ea = λ bytes st.
    subst (IsWhole gate bytes) (sym (ap (λ t. t.begun) ea) ∙ sym (whole_stopped new after h.phase)) (st.0.whole st.1)

pub whole_cut : (gate : Gate) (why : Stop) (old new : Seen) (before after : Tally) → (old.phase ≡ phase.Top → ⊥) → StopsWith why old new → after ≡ before → WholeAtEnd gate old before new after
unfolding WholeAtEnd StandsFor
whole_cut gate why old new before after inside h ea = λ bytes st.
    subst (IsWhole gate bytes) (whole_below old before inside ∙ sym (ap (λ t. t.begun) ea) ∙ sym (whole_stopped new after h.phase)) (st.0.whole st.1)

pub whole_of_stopped : (gate : Gate) (old new : Seen) (before after : Tally) → old.phase ≡ phase.Stopped → WholeAtEnd gate old before new after
unfolding WholeAtEnd
whole_of_stopped gate old new before after e = λ bytes st. absurd (no_bytes gate bytes old before e st)

-- ---- the end

pub finish_accepts : (totals : Totals) (gate : Gate) (old new : Seen) (tally : Tally) → old.phase ≡ phase.Top → StopsWith stop.Spent old new
    → (tally.earlier + length old.table.entries < 2 ^ 64 → totals ≡ totals_of old tally) → IsGate gate
    → FinishTells gate (Ok totals) old tally new
unfolding FinishTells StandsFor IsSpent
finish_accepts totals gate old new tally e h is g = λ bytes st.
    let x = finish_totals gate bytes old tally st.0 st.1 e in
    let n = counts_within gate bytes old tally st.0 in
    let l = st.1 in
    let cap = g.0 in
    let a = n.1 in
    ((x.0, x.1, subst (λ t. AreTotals bytes x.0 t) (sym (is (omega arith))) x.2), (h.phase, h.stop))

pub finish_truncates : (why : Stop) (gate : Gate) (old new : Seen) (tally : Tally) → (old.phase ≡ phase.Top → ⊥)
    → why ≡ stop.Refused (record { from_byte = old.meter.from; to_byte = old.meter.at; reason = reason.Truncated })
    → StopsWith (refusal old.meter reason.Truncated) old new → FinishTells gate (Err why) old tally new
unfolding FinishTells StandsFor HasRefused
finish_truncates why gate old new tally inside e h = λ bytes st.
    let s = left begin_state st.0.taken.tokens in
    let d = ends_only_at_top gate old (settled s) st.0.taken.cut st.0.taken.stands inside in
    let told : Refusal = record { from_byte = old.meter.from; to_byte = old.meter.at; reason = reason.Truncated } in
    let c = st.0.taken.stands.counts in
    let t = st.0.taken.taken in
    let x = truncates gate bytes st.0.taken.cut s told st.0.taken.all_bytes st.1 st.0.taken.walked d refl (omega arith) (omega arith) in
    subst (λ y. FinishCases gate bytes (Err y) new) (sym e) (x, (h.phase, h.stop))

pub stopped_finishes : (why : Stop) (gate : Gate) (old new : Seen) (tally : Tally) → old.phase ≡ phase.Stopped → FinishTells gate (Err why) old tally new
unfolding FinishTells
stopped_finishes why gate old new tally e = λ bytes st. absurd (no_bytes gate bytes old tally e st)

-- ---- a new reader

pub limits_are : (gate : Gate) (limits : Limits) (r : Seen) → HasLimits limits r
    → AreLimitsOf gate limits → gate_with r gate.answer ≡ gate
limits_are gate limits r l e =
    rw (l.bytes) (rw (l.depth) (rw (l.refs) (rw (l.array) (rw (l.handles_are) (rw (e.bytes) (rw (e.depth) (rw (e.refs) (rw (e.array) (rw (e.handles) refl)))))))))

pub reader_begins : (gate : Gate) (limits : Limits) (r : Seen) → IsNew r → HasLimits limits r
    → AreLimitsOf gate limits → StandsFor gate [] r no_tally
unfolding StandsFor
reader_begins gate limits r n l e = (new_counts gate r n (limits_are gate limits r l e), omega arith)
