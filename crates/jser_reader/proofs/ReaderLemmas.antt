-- A reader: the bytes of a piece, up to the limit, and what is answered.
use Rattle.std.proofs.Common.{◌≡◌, ℕ, zero, suc, ◌+◌, ◌<◌, ◌≤◌, ◌^◌, ◌&&◌, Bool, true, false, nat_lt, get_or, List, [], ◌∷◌, ◌++◌, length, take, refl, sym, ◌∙◌, ap, subst, arith, IsTrue, append_assoc, length-append, length-take-le, lt-ltb}
use Rattle.std.specs.List.{list_all}
use Rattle.jser_grammar.specs.Parts.{IsBytes}
use Rattle.jser_reading.specs.Machine.{begin_state, left}
use Rattle.jser_verdict.specs.Gates.{Gate}
use Rattle.jser_verdict.proofs.ByteLists.{bytes_both, bytes_right}
use Rattle.jser_reader.specs.declared.machine.flow.Flow.TheVariants as flow
use Rattle.jser_reader.specs.declared.phase.Phase.TheVariants as phase
use Rattle.jser_reader.specs.declared.refusal.Refusal.{Refusal}
use Rattle.jser_reader.specs.declared.refusal.Reason.TheVariants as reason
use Rattle.jser_reader.specs.declared.refusal.Stop.TheVariants as stop
use Rattle.jser_reader.specs.Readers.{Seen}
use Rattle.jser_reader.specs.Walks.{HasTaken, Takes, Keeps, StopsFor}
use Rattle.jser_reader.specs.States.{IsWithin, exceeded}
use Rattle.jser_reader.specs.Streams.{AreRefused}
use Rattle.jser_reader.specs.WholeContents.{IsWhole, StaysWhole}
use Rattle.jser_reader.proofs.StandLemmas.{took_stands, kept_stands}
use Rattle.jser_reader.proofs.StreamWalks.{stop_stands}
use Rattle.jser_reader.proofs.TextSteps.{take_last}
use Rattle.jser_reader.proofs.AnswerLemmas.{refuses, exceeds}
use Rattle.jser_reader.proofs.WholeContentLemmas.{limit_whole}

-- ---- pieces

take_less : (n k : ℕ) (xs : List ℕ) → n ≤ k → take n (take k xs) ≡ take n xs
take_less zero k xs h = refl
take_less (suc n) zero xs h = absurd (omega arith)
take_less (suc n) (suc k) [] h = refl
take_less (suc n) (suc k) (x ∷ xs) h = ap (λ ys. x ∷ ys) (take_less n k xs (omega arith))

pub take_whole : (xs : List ℕ) → take (length xs) xs ≡ xs
take_whole [] = refl
take_whole (x ∷ xs) = ap (λ ys. x ∷ ys) (take_whole xs)

pub front_of_front : (r : Seen) (piece front : List ℕ) (n : ℕ) → IsWithin r piece front → n ≤ length front → take n front ≡ take n piece
front_of_front r piece front n w h = ap (take n) w.is_front ∙ take_less n (length front) piece h

pub bytes_front : (n : ℕ) (xs : List ℕ) → IsBytes xs → IsBytes (take n xs)
bytes_front zero xs h = refl
bytes_front (suc n) [] h = refl
bytes_front (suc n) (x ∷ xs) h = go (nat_lt x 0x100) h (λ k. bytes_front n xs k)
  where
    go : (b : Bool) → IsTrue (b && list_all (λ b. nat_lt b 0x100) xs) → (IsBytes xs → IsBytes (take n xs)) → IsTrue (b && list_all (λ b. nat_lt b 0x100) (take n xs))
    go true h k = k h
    go false h k = absurd (cc)

-- the items of a slice of bytes are bytes
pub all_bytes : (xs : List ℕ) → ((k : ℕ) → get_or xs k 0 < 0x100) → IsBytes xs
all_bytes [] h = refl
all_bytes (x ∷ xs) h =
    subst (λ b. IsTrue (b && list_all (λ b. nat_lt b 0x100) xs)) (sym (lt-ltb x 0x100 (h 0))) (all_bytes xs (λ k. h (suc k)))

-- the limit of the gate is that of the machine
pub limit_is : (gate : Gate) (bytes : List ℕ) (r : Seen) → HasTaken gate bytes r → r.meter.limits.bytes ≡ gate.bytes
limit_is gate bytes r h = ap (λ g. g.bytes) h.stands.limits_are

-- what is within the limit can be counted
pub within_room : (r : Seen) (piece front : List ℕ) → IsWithin r piece front → 0 < length front → r.meter.at + length front < 2 ^ 64
within_room r piece front w some = w.room some

-- ---- a token ends, or goes on

pub token_ends : (gate : Gate) (bytes piece front : List ℕ) (n : ℕ) (old new : Seen) → IsWithin old piece front → n ≤ length front → IsBytes piece
    → Takes gate (take n front) flow.On old new → HasTaken gate bytes old → length bytes ≤ gate.bytes
    → HasTaken gate (bytes ++ take n piece) new × (length (bytes ++ take n piece) ≤ gate.bytes)
token_ends gate bytes piece front n old new w le h t st room =
    let e = front_of_front old piece front n w le in
    let m = limit_is gate bytes old st in
    let f = w.fits in
    let a = st.taken in
    let k = length-append bytes (take n piece) in
    let j = length-take-le n piece (let s = w.short in omega arith) in
    (took_stands gate old new bytes (take n piece) (subst (λ xs. Takes gate xs flow.On old new) e t) (bytes_front n piece h) st, omega arith)

pub token_goes_on : (gate : Gate) (bytes piece front : List ℕ) (n : ℕ) (old new : Seen) → IsWithin old piece front → n ≤ length front → IsBytes piece
    → Keeps gate (take n front) old new → HasTaken gate bytes old → length bytes ≤ gate.bytes
    → HasTaken gate (bytes ++ take n piece) new × (length (bytes ++ take n piece) ≤ gate.bytes)
token_goes_on gate bytes piece front n old new w le h t st room =
    let e = front_of_front old piece front n w le in
    let m = limit_is gate bytes old st in
    let f = w.fits in
    let a = st.taken in
    let k = length-append bytes (take n piece) in
    let j = length-take-le n piece (let s = w.short in omega arith) in
    (kept_stands gate old new bytes (take n piece) (subst (λ xs. Keeps gate xs old new) e t) (bytes_front n piece h) st, omega arith)

-- ---- the machine stops

pub token_stops : (gate : Gate) (bytes piece front : List ℕ) (n : ℕ) (refusal : Refusal) (old new : Seen) → IsWithin old piece front → n ≤ length front → IsBytes piece
    → Takes gate (take n front) flow.Stopped old new → HasTaken gate bytes old → length bytes ≤ gate.bytes → new.meter.stop ≡ stop.Refused refusal
    → AreRefused gate (bytes ++ take n piece) refusal
token_stops gate bytes piece front n refusal old new w le h t st room es =
    let e = front_of_front old piece front n w le in
    let m = limit_is gate bytes old st in
    let f = w.fits in
    let a = st.taken in
    let k = length-append bytes (take n piece) in
    let j = length-take-le n piece (let s = w.short in omega arith) in
    let x : StopsFor gate (bytes ++ take n piece) (stop.Refused refusal) =
    subst (StopsFor gate (bytes ++ take n piece)) es (stop_stands gate old new bytes (take n piece) (subst (λ xs. Takes gate xs flow.Stopped old new) e t) st) in
    refuses gate (bytes ++ take n piece) refusal (bytes_both bytes (take n piece) st.all_bytes (bytes_front n piece h)) (omega arith) x

-- a machine that stands for bytes does not stop as if it were spent
pub never_spent : (gate : Gate) (bytes taken : List ℕ) (old new : Seen) → Takes gate taken flow.Stopped old new → HasTaken gate bytes old → new.meter.stop ≡ stop.Spent → ⊥
unfolding Takes
never_spent gate bytes taken old new h st e =
    subst (λ w. StopsFor gate (bytes ++ taken) w) e (stop_stands gate old new bytes taken h st)

-- ---- the limit

-- where so much of the piece reaches the limit, the next byte of it is one too many
pub over : (gate : Gate) (bytes piece : List ℕ) (k : ℕ) (r : Seen) → HasTaken gate (bytes ++ take k piece) r → k < length piece
    → length (bytes ++ take k piece) ≡ gate.bytes → IsBytes piece → (refusal : Refusal) → stop.Refused refusal ≡ exceeded r.meter
    → AreRefused gate (bytes ++ take (suc k) piece) refusal
over gate bytes piece k r st more le h refusal er =
    let x = take_last k piece more in
    let same : refusal ≡ record { from_byte = r.meter.from; to_byte = r.meter.at + 1; reason = reason.BytesExceeded } = cc in
    let s = st.stands.counts in
    let t = st.taken in
    let last : IsBytes (x.0 ∷ []) = bytes_right (take k piece) (x.0 ∷ []) (subst IsBytes x.1 (bytes_front (suc k) piece h)) in
    let all : bytes ++ take (suc k) piece ≡ (bytes ++ take k piece) ++ (x.0 ∷ []) = ap (λ xs. bytes ++ xs) x.1 ∙ sym (append_assoc bytes (take k piece) (x.0 ∷ [])) in
    subst (λ xs. AreRefused gate xs refusal) (sym all)
    (exceeds gate (bytes ++ take k piece) st.cut x.0 (left begin_state st.tokens) refusal st.all_bytes last le st.walked
    (ap (λ x. x.reason) same) (let k = ap (λ x. x.from_byte) same in omega arith) (let k = ap (λ x. x.to_byte) same in omega arith))

pub over_whole : (gate : Gate) (bytes piece : List ℕ) (k n : ℕ) → k < length piece → length (bytes ++ take k piece) ≡ gate.bytes → IsWhole gate (bytes ++ take k piece) n
    → StaysWhole gate (bytes ++ take (suc k) piece) n
over_whole gate bytes piece k n more full i =
    let x = take_last k piece more in
    let all : bytes ++ take (suc k) piece ≡ (bytes ++ take k piece) ++ (x.0 ∷ []) = ap (λ xs. bytes ++ xs) x.1 ∙ sym (append_assoc bytes (take k piece) (x.0 ∷ [])) in
    subst (λ xs. StaysWhole gate xs n) (sym all) (limit_whole gate (bytes ++ take k piece) (x.0 ∷ []) n full i)

-- it has stopped then
pub has_stopped : (gate : Gate) (bytes taken : List ℕ) (old new : Seen) → Takes gate taken flow.Stopped old new → HasTaken gate bytes old → new.phase ≡ phase.Stopped
unfolding Takes
has_stopped gate bytes taken old new h st = (h (left begin_state st.tokens) st.cut st.stands).0
