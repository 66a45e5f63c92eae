-- A step of `skip`: what was taken of a piece, token after token.
use Rattle.std.proofs.Common.{◌≡◌, ℕ, ◌+◌, ◌-◌, ◌^◌, ◌<◌, ◌≤◌, Bool, true, false, nat_lt, if◌then◌else◌, List, ◌++◌, length, take, drop, get_or, Option, Some, None, Result, Ok, Err, refl, sym, ◌∙◌, ap, subst, arith, append_assoc, append-nil, length-append}
use Rattle.std.proofs.lemmas.Bool.Decides.{nat_tests}
use Rattle.std.proofs.lemmas.List.{length-take-le, take-append-drop}
use Rattle.jser_grammar.specs.Parts.{IsBytes}
use Rattle.jser_reading.specs.Labels.{Position, Label, Piece}
use Rattle.jser_reading.specs.TokenBytes.{joined}
use Rattle.jser_reading.specs.TokensFromBytes.{tag_from, size_in}
use Rattle.jser_reading.specs.Goals.{State}
use Rattle.jser_reading.specs.Machine.{begin_state, left}
use Rattle.jser_reading.specs.ComesNext.{ComesNext}
use Rattle.jser_verdict.specs.Gates.{Gate, IsGate}
use Rattle.jser_reader.specs.declared.machine.flow.Flow.{Flow}
use Rattle.jser_reader.specs.declared.machine.flow.Flow.TheVariants as flow
use Rattle.jser_reader.specs.declared.item.Item.TheVariants as item
use Rattle.jser_reader.specs.declared.item.Step.TheVariants as step
use Rattle.jser_reader.specs.declared.machine.passed.Passed.{Passed}
use Rattle.jser_reader.specs.declared.machine.take.taken.Taken.{Taken}
use Rattle.jser_reader.specs.declared.machine.take.taken.Taken.TheVariants as taken
use Rattle.jser_reader.specs.declared.phase.Phase.{Phase}
use Rattle.jser_reader.specs.declared.phase.Phase.TheVariants as phase
use Rattle.jser_reader.specs.declared.refusal.Stop.{Stop}
use Rattle.jser_reader.specs.declared.refusal.Stop.TheVariants as stop
use Rattle.jser_reader.specs.declared.tally.Tally.{Tally}
use Rattle.jser_reader.specs.Memory.{IsCheckedName, EndsInside, MayRunOut}
use Rattle.jser_reader.specs.Readers.{Seen}
use Rattle.jser_reader.specs.Walks.{StopTold, Takes, Keeps}
use Rattle.jser_reader.specs.Takes.{IsOne, TakenCases, TakesFromFor, TakesByte}
use Rattle.jser_reader.specs.Tallies.{may_count, begun_next, with_tag, tally_next, CountsNext, tally_stopped, HasCounted}
use Rattle.jser_reader.specs.Handlers.{StopsWith}
use Rattle.jser_reader.specs.States.{IsWithin, AnswersStop, stop_after, exceeded}
use Rattle.jser_reader.specs.Bounds.{SkipMemoryFree}
use Rattle.jser_reader.specs.ReaderStates.{StandsFor, HasRefused, IsSpent, NextCases, NextTells, StopCases, SkipTells}
use Rattle.jser_reader.specs.ItemsTold.{StandsIn}
use Rattle.jser_reader.specs.Streams.{AreRefused}
use Rattle.jser_reader.specs.Passes.{bytes_passed, HaltCases, PassCases, PassTells, InsideCases, PassInside, Passes, passed_of, HasPassed, IsQuiet, CanPass}
use Rattle.jser_reader.specs.WholeContents.{IsWhole, StaysWhole}
use Rattle.jser_reader.proofs.CountLemmas.{counts_at_top, begun_is}
use Rattle.jser_reader.proofs.TakeLemmas.{one_taken}
use Rattle.jser_reader.proofs.TotalLemmas.{token_counts, goes_on_counts}
use Rattle.jser_reader.proofs.ReaderLemmas.{take_whole, front_of_front, bytes_front, token_stops, never_spent, has_stopped}
use Rattle.jser_reader.proofs.MemoryLemmas.{stands_in, label_next, not_inside}
use Rattle.jser_reader.proofs.SkipMemory.{size_after}
use Rattle.jser_reader.proofs.SkipLemmas.{take_more}
use Rattle.jser_reader.proofs.ItemCalls.{token_open}
use Rattle.jser_reader.proofs.NextLemmas.{next_item, next_full, no_bytes}
use Rattle.jser_reader.proofs.WholeContentLemmas.{stopped_whole, whole_stopped}

-- ---- one step after another

pub joined_takes : (piece rest : List ℕ) (used k : ℕ) → used ≤ length piece → piece ≡ take used piece ++ rest → take used piece ++ take k rest ≡ take (used + k) piece
joined_takes piece rest used k le e =
    take_more (take used piece) rest k ∙ ap (λ n. take (n + k) (take used piece ++ rest)) (length-take-le used piece le) ∙ ap (take (used + k)) (sym e)

-- to stand for tokens is to stand for their bytes
pub for_bytes : (gate : Gate) (front : List Piece) (cut : List ℕ) (r : Seen) (tally : Tally) → StandsIn gate front cut r tally → StandsFor gate (joined front ++ cut) r tally
unfolding StandsFor
for_bytes gate front cut r tally st = (st.counted, st.within)

rest_length : (piece rest : List ℕ) (used : ℕ) → used ≤ length piece → piece ≡ take used piece ++ rest → used + length rest ≡ length piece
rest_length piece rest used le e =
    let a = ap length e in
    let b = length-append (take used piece) rest in
    let c = length-take-le used piece le in
    omega arith

pub pass_on : (gate : Gate) (piece rest : List ℕ) (used k : ℕ) (old mid new : Seen) (before between after : Tally) → Passes gate piece (Some used) old before mid between
    → Passes gate rest (Some k) mid between new after → piece ≡ take used piece ++ rest → Passes gate piece (Some (used + k)) old before new after
unfolding PassTells PassInside
pass_on gate piece rest used k old mid new before between after h g e = record {
  tells = λ bytes st.
      let x = h.tells bytes st in
      let y = g.tells (bytes ++ take used piece) x.1 in
      let n = rest_length piece rest used x.0 e in
      let le = y.0 in (
        omega arith,
        subst (λ xs. StandsFor gate xs new after)
            (append_assoc bytes (take used piece) (take k rest) ∙ ap (λ xs. bytes ++ xs) (joined_takes piece rest used k x.0 e)) y.1,
      );
  inside = λ front cut label st comes inside.
      let x = h.inside front cut label st comes inside in
      let le = (h.tells (joined front ++ cut) (for_bytes gate front cut old before st)).0 in
      let all : cut ++ piece ≡ (cut ++ take used piece) ++ rest = ap (λ xs. cut ++ xs) e ∙ sym (append_assoc cut (take used piece) rest) in
      let y = g.inside front (cut ++ take used piece) label x comes (subst (EndsInside label.position) all inside) in
      subst (λ xs. StandsIn gate front xs new after)
      (append_assoc cut (take used piece) (take k rest) ∙ ap (λ xs. cut ++ xs) (joined_takes piece rest used k le e)) y;
}

pub pass_halts : (gate : Gate) (piece rest : List ℕ) (used : ℕ) (old mid new : Seen) (before between after : Tally) → Passes gate piece (Some used) old before mid between
    → Passes gate rest None mid between new after → piece ≡ take used piece ++ rest → Passes gate piece None old before new after
unfolding PassTells PassInside
pass_halts gate piece rest used old mid new before between after h g e = record {
  tells = λ bytes st.
      let x = h.tells bytes st in
      let y = g.tells (bytes ++ take used piece) x.1 in
      (y.0, farther new.meter.stop bytes x.0 y.1);
  inside = λ front cut label st comes inside.
      let x = h.inside front cut label st comes inside in
      let all : cut ++ piece ≡ (cut ++ take used piece) ++ rest = ap (λ xs. cut ++ xs) e ∙ sym (append_assoc cut (take used piece) rest) in
      g.inside front (cut ++ take used piece) label x comes (subst (EndsInside label.position) all inside);
}
  where
    farther : (why : Stop) (bytes : List ℕ) → used ≤ length piece → HaltCases gate (bytes ++ take used piece) rest after why → HaltCases gate bytes piece after why
    farther (stop.Refused refusal) bytes le y =
        let n = rest_length piece rest used le e in
        let more = y.1 in
        let some = y.3 in
        let same : (bytes ++ take used piece) ++ take y.0 rest ≡ bytes ++ take (used + y.0) piece =
        append_assoc bytes (take used piece) (take y.0 rest) ∙ ap (λ xs. bytes ++ xs) (joined_takes piece rest used y.0 le e) in (
          used + y.0,
          omega arith,
          subst (λ xs. AreRefused gate xs refusal) same y.2,
          omega arith,
          subst (λ xs. StaysWhole gate xs after.begun) same y.4,
        )
    farther stop.OutOfMemory bytes le y = tt
    farther stop.Spent bytes le y = absurd y

-- nothing is taken
pub pass_none : (gate : Gate) (piece : List ℕ) (r : Seen) (tally : Tally) → Passes gate piece (Some 0) r tally r tally
unfolding PassTells PassInside
pass_none gate piece r tally = record {
  tells = λ bytes st. (omega arith, subst (λ xs. StandsFor gate xs r tally) (sym (append-nil bytes)) st);
  inside = λ front cut label st comes inside. subst (λ xs. StandsIn gate front xs r tally) (sym (append-nil cut)) st;
}

-- a machine that has stopped stands for nothing
pub pass_stopped : (gate : Gate) (piece : List ℕ) (r : Seen) (tally : Tally) → r.phase ≡ phase.Stopped → Passes gate piece None r tally r tally
unfolding PassTells PassInside
pass_stopped gate piece r tally e = record {
  tells = λ bytes st. absurd (no_bytes gate bytes r tally e st);
  inside = λ front cut label st comes inside other. absurd (no_bytes gate (joined front ++ cut) r tally e (for_bytes gate front cut r tally st));
}

-- ---- a token ends

-- then the piece does not end inside it
ended_inside : (gate : Gate) (piece : List ℕ) (used : ℕ) (old new : Seen) (tally : Tally) (front : List Piece) (cut : List ℕ) (label : Label)
    → Takes gate (take used piece) flow.On old new → StandsIn gate front cut old tally → ComesNext front label → EndsInside label.position (cut ++ piece) → ⊥
unfolding Takes
ended_inside gate piece used old new tally front cut label t st comes inside =
    let s = left begin_state front in
    let x = t s cut (stands_in gate front cut old tally st) in
    let taken : List ℕ = cut ++ take used piece in
    let all : cut ++ piece ≡ taken ++ drop used piece = ap (λ xs. cut ++ xs) (sym (take-append-drop used piece)) ∙ sym (append_assoc cut (take used piece) (drop used piece)) in
    let whole : size_in label.position taken ≡ length taken = subst (λ l. size_in l.position taken ≡ length taken) (sym (label_next front label comes)) x.whole in
    let same = size_after label.position taken (drop used piece) (omega arith) in
    let short : length (taken ++ drop used piece) < size_in label.position (taken ++ drop used piece) = subst (EndsInside label.position) all inside in
    let n = length-append taken (drop used piece) in
    omega arith

pub passes_end : (gate : Gate) (used : ℕ) (took : Taken) (piece : List ℕ) (old new : Seen) (before after : Tally) → TakesFromFor gate took piece old new
    → took ≡ taken.Ended used → CountsNext old (get_or piece 0 0) before after → IsGate gate → CanPass old piece → Passes gate piece (Some used) old before new after
unfolding TakesFromFor PassTells PassInside NextTells
passes_end gate used took piece old new before after k e c g can =
    let t = subst (λ x. TakenCases gate x piece old new) e k in
    record {
      tells = λ bytes st.
          let x = next_item (step.Item item.Header used) used piece piece gate old new before after can.within can.all_bytes t.0 t.1 t.2 c g refl bytes st in
          (x.1, x.2);
      inside = λ front cut label st comes inside. absurd (ended_inside gate piece used old new before front cut label t.2 st comes inside);
    }

-- ---- quiet tokens

-- where the last content began is not asked at the top
pub passes_at_top : (gate : Gate) (piece : List ℕ) (used : ℕ) (old new : Seen) (before after : Tally) (begun : ℕ) → new.phase ≡ phase.Top → Passes gate piece (Some used) old before new after
    → Passes gate piece (Some used) old before new (record after { begun = begun })
unfolding PassTells PassInside StandsFor counts_at_top
passes_at_top gate piece used old new before after begun top h = record {
  tells = λ bytes st. let x = h.tells bytes st in (x.0, (counts_at_top gate (bytes ++ take used piece) new after begun top x.1.0, x.1.1));
  inside = λ front cut label st comes inside.
      let x = h.inside front cut label st comes inside in
      record {
        counted = counts_at_top gate (joined front ++ (cut ++ take used piece)) new after begun top x.counted;
        tokens_are = x.tokens_are;
        cut_is = x.cut_is;
        within = x.within;
      };
}

quiet_counts : (p : Phase) → IsQuiet p → may_count p ≡ false
quiet_counts phase.Top q = absurd q
quiet_counts phase.Note q = absurd q
quiet_counts phase.Value q = absurd q
quiet_counts phase.SuperTag q = absurd q
quiet_counts phase.Stopped q = absurd q
quiet_counts _ q = refl

pub quiet_next : (r : Seen) (byte : ℕ) (tally : Tally) → IsQuiet r.phase → tally_next r byte tally ≡ tally
quiet_next r byte tally q = ap (λ b. if b then with_tag r (tag_from byte) tally else tally) (quiet_counts r.phase q)

-- nor where the machine stops
pub quiet_stopped : (r : Seen) (tally : Tally) → IsQuiet r.phase → tally.begun ≡ begun_next r tally
quiet_stopped r tally q = ap (λ t. t.begun) (sym (quiet_next r 0 tally q)) ∙ begun_is r 0 tally

pub quiet_takes : (gate : Gate) (used : ℕ) (piece : List ℕ) (old new : Seen) (tally : Tally) → used ≤ length piece → Takes gate (take used piece) flow.On old new
    → IsQuiet old.phase → CanPass old piece → Passes gate piece (Some used) old tally new tally
unfolding PassTells PassInside StandsFor
quiet_takes gate used piece old new tally le t q can = record {
  tells = λ bytes st.
      let x = token_counts gate bytes piece piece used old new tally can.within le can.all_bytes t st.0 st.1 in
      let same = quiet_next old (get_or (take used piece) 0 0) tally q in
      (le, (subst (λ a. HasCounted gate (bytes ++ take used piece) new a) same x.0, x.1));
  inside = λ front cut label st comes inside. absurd (ended_inside gate piece used old new tally front cut label t st comes inside);
}

pub quiet_end : (gate : Gate) (used : ℕ) (took : Taken) (piece : List ℕ) (old new : Seen) (tally : Tally) → TakesFromFor gate took piece old new
    → took ≡ taken.Ended used → IsQuiet old.phase → CanPass old piece → Passes gate piece (Some used) old tally new tally
unfolding TakesFromFor
quiet_end gate used took piece old new tally k e q can =
    let t = subst (λ x. TakenCases gate x piece old new) e k in quiet_takes gate used piece old new tally t.1 t.2 q can

-- ---- a token goes on

keeps_passes : (gate : Gate) (used : ℕ) (piece : List ℕ) (old new : Seen) (tally : Tally) → used ≤ length piece → Keeps gate (take used piece) old new → CanPass old piece
    → Passes gate piece (Some used) old tally new tally
unfolding PassTells PassInside StandsFor
keeps_passes gate used piece old new tally le k can = record {
  tells = λ bytes st. (le, goes_on_counts gate bytes piece piece used old new tally can.within le can.all_bytes k st.0 st.1);
  inside = λ front cut label st comes inside. token_open gate piece piece used old new tally front cut st can.within le can.all_bytes k;
}

pub passes_part : (gate : Gate) (used : ℕ) (took : Taken) (piece : List ℕ) (old new : Seen) (tally : Tally) → TakesFromFor gate took piece old new
    → took ≡ taken.Part used → CanPass old piece → Passes gate piece (Some used) old tally new tally
unfolding TakesFromFor
passes_part gate used took piece old new tally k e can =
    let t = subst (λ x. TakenCases gate x piece old new) e k in keeps_passes gate used piece old new tally t.1 t.2 can

pub passes_open : (gate : Gate) (took : Taken) (piece : List ℕ) (old new : Seen) (tally : Tally) → TakesFromFor gate took piece old new
    → took ≡ taken.Open → CanPass old piece → Passes gate piece (Some (length piece)) old tally new tally
unfolding TakesFromFor
passes_open gate took piece old new tally k e can =
    let t = subst (λ x. TakenCases gate x piece old new) e k in
    keeps_passes gate (length piece) piece old new tally (omega arith) (subst (λ xs. Keeps gate xs old new) (sym (take_whole piece)) t.0) can

-- ---- the machine stops

pub passes_stop : (gate : Gate) (used : ℕ) (took : Taken) (piece : List ℕ) (old new : Seen) (before after : Tally) → TakesFromFor gate took piece old new
    → took ≡ taken.Stopped used → CanPass old piece → after.begun ≡ begun_next old before → Passes gate piece None old before new after
unfolding Takes TakesFromFor PassTells PassInside StandsFor
passes_stop gate used took piece old new before after k e can ea =
    let t = subst (λ x. TakenCases gate x piece old new) e k in
    record {
      tells = λ bytes st. (has_stopped gate bytes (take used piece) old new t.2 st.0.taken, halts t.0 t.1 t.2 bytes st.0 st.1 new.meter.stop refl);
      inside = λ front cut label st comes inside other none. runs_out t.1 t.2 front cut label st comes inside other none;
    }
  where
    halts : 0 < used → used ≤ length piece → Takes gate (take used piece) flow.Stopped old new → (bytes : List ℕ) → HasCounted gate bytes old before → length bytes ≤ gate.bytes
        → (why : Stop) → new.meter.stop ≡ why → HaltCases gate bytes piece after why
    halts some le t bytes st room (stop.Refused refusal) es = (
      used,
      le,
      token_stops gate bytes piece piece used refusal old new can.within le can.all_bytes t st.taken room es,
      some,
      stopped_whole gate old new bytes (take used piece) refusal after.begun t es (bytes_front used piece can.all_bytes) st.taken
          (subst (IsWhole gate bytes) (sym ea) (st.whole room)),
    )
    halts some le t bytes st room stop.OutOfMemory es = tt
    halts some le t bytes st room stop.Spent es = never_spent gate bytes (take used piece) old new t st.taken es

    runs_out : used ≤ length piece → Takes gate (take used piece) flow.Stopped old new → (front : List Piece) (cut : List ℕ) (label : Label) → StandsIn gate front cut old before
        → ComesNext front label → EndsInside label.position (cut ++ piece) → (IsCheckedName label.position → ⊥) → new.meter.stop ≡ stop.OutOfMemory → ⊥
    runs_out le t front cut label st comes inside other none =
        let s : State = left begin_state front in
        let h = (t s cut (stands_in gate front cut old before st)).1 in
        not_inside label.position cut piece used le other inside
        (subst (λ l. MayRunOut l.position (cut ++ take used piece)) (sym (label_next front label comes))
        (subst (StopTold gate s cut (take used piece) old.meter.from) none h))

-- ---- any of these, of a quiet token

pub quiet_passes : (gate : Gate) (took : Taken) (piece : List ℕ) (old new : Seen) (tally : Tally) → TakesFromFor gate took piece old new
    → IsQuiet old.phase → CanPass old piece → Passes gate piece (bytes_passed (passed_of took (length piece))) old tally new tally
quiet_passes gate (taken.Ended used) piece old new tally k q can = quiet_end gate used (taken.Ended used) piece old new tally k refl q can
quiet_passes gate (taken.Part used) piece old new tally k q can = passes_part gate used (taken.Part used) piece old new tally k refl can
quiet_passes gate taken.Open piece old new tally k q can = passes_open gate taken.Open piece old new tally k refl can
quiet_passes gate (taken.Stopped used) piece old new tally k q can = passes_stop gate used (taken.Stopped used) piece old new tally tally k refl can (quiet_stopped old tally q)

-- ---- how much was taken

pub some_passed : (gate : Gate) (took : Taken) (piece : List ℕ) (old new : Seen) → TakesFromFor gate took piece old new → 0 < length piece
    → HasPassed piece (bytes_passed (passed_of took (length piece)))
unfolding TakesFromFor
some_passed gate (taken.Ended used) piece old new k some = (k.0, k.1)
some_passed gate (taken.Part used) piece old new k some = (k.0, k.1)
some_passed gate taken.Open piece old new k some = (some, omega arith)
some_passed gate (taken.Stopped used) piece old new k some = tt

-- ---- a piece that reaches over the limit of bytes

-- a piece that ends inside a token has a front that ends inside it
inside_front : (w : Position) (a b : List ℕ) → EndsInside w (a ++ b) → EndsInside w a
inside_front w a b inside = go (nat_lt (length a) (size_in w a)) refl
  where
    go : (x : Bool) → nat_lt (length a) (size_in w a) ≡ x → EndsInside w a
    go true ex = let short : length a < size_in w a = grind (arith, nat_tests) in short
    go false ex =
        let enough : size_in w a ≤ length a = grind (arith, nat_tests) in
        let same = size_after w a b enough in
        let n = length-append a b in
        absurd (omega arith)

pub passes_front : (gate : Gate) (piece front : List ℕ) (result : Option ℕ) (old new : Seen) (before after : Tally) → Passes gate front result old before new after
    → IsWithin old piece front → Passes gate piece result old before new after
unfolding PassTells PassInside
passes_front gate piece front result old new before after h w = record {
  tells = λ bytes st. told result bytes (h.tells bytes st);
  inside = λ tokens cut label st comes inside.
      goes_on result tokens cut label (h.tells (joined tokens ++ cut) (for_bytes gate tokens cut old before st))
      (h.inside tokens cut label st comes (inside_front label.position (cut ++ front) (drop (length front) piece) (subst (EndsInside label.position) (all cut) inside)));
}
  where
    all : (cut : List ℕ) → cut ++ piece ≡ (cut ++ front) ++ drop (length front) piece
    all cut =
        ap (λ xs. cut ++ xs) (sym (take-append-drop (length front) piece) ∙ ap (λ xs. xs ++ drop (length front) piece) (sym w.is_front))
        ∙ sym (append_assoc cut front (drop (length front) piece))

    halts : (why : Stop) (bytes : List ℕ) → HaltCases gate bytes front after why → HaltCases gate bytes piece after why
    halts (stop.Refused refusal) bytes x =
        let s = w.short in
        let le = x.1 in
        let same = front_of_front old piece front x.0 w x.1 in
        (x.0, omega arith, subst (λ xs. AreRefused gate (bytes ++ xs) refusal) same x.2, x.3, subst (λ xs. StaysWhole gate (bytes ++ xs) after.begun) same x.4)
    halts stop.OutOfMemory bytes x = x
    halts stop.Spent bytes x = x

    told : (result : Option ℕ) (bytes : List ℕ) → PassCases gate bytes front result new after → PassCases gate bytes piece result new after
    told (Some used) bytes x =
        let s = w.short in
        let le = x.0 in
        (omega arith, subst (λ xs. StandsFor gate (bytes ++ xs) new after) (front_of_front old piece front used w x.0) x.1)
    told None bytes x = (x.0, halts new.meter.stop bytes x.1)

    goes_on : (result : Option ℕ) (tokens : List Piece) (cut : List ℕ) (label : Label) → PassCases gate (joined tokens ++ cut) front result new after
        → InsideCases gate tokens cut front (IsCheckedName label.position) result new after → InsideCases gate tokens cut piece (IsCheckedName label.position) result new after
    goes_on (Some used) tokens cut label t x = subst (λ xs. StandsIn gate tokens (cut ++ xs) new after) (front_of_front old piece front used w t.0) x
    goes_on None tokens cut label t x = x

-- not a byte of it is within the limit
pub passes_full : (why : Stop) (piece front : List ℕ) (gate : Gate) (old new : Seen) (before after : Tally) → IsWithin old piece front → IsBytes piece → length front ≡ 0 → 0 < length piece
    → (old.meter.at + 1 < 2 ^ 64 → (why ≡ exceeded old.meter) × StopsWith (exceeded old.meter) old new)
    → IsGate gate → after ≡ tally_stopped old before → Passes gate piece None old before new after
unfolding PassTells PassInside NextTells StandsFor
passes_full why piece front gate old new before after w h none some x g ea = record {
  tells = λ bytes st.
      let y = next_full why piece front gate old new before after w h none some x g ea bytes st in
      let z = stops bytes st in
      (z.1.phase, halts bytes new.meter.stop z.1.phase z.1.stop (subst (λ s. NextCases gate bytes piece (Err s) new after) z.0 y));
  inside = λ tokens cut label st comes inside other out.
      let z = stops (joined tokens ++ cut) (for_bytes gate tokens cut old before st) in
      let e = z.1.stop in
      absurd (cc);
}
  where
    stops : (bytes : List ℕ) → HasCounted gate bytes old before × (length bytes ≤ gate.bytes) → (why ≡ exceeded old.meter) × StopsWith (exceeded old.meter) old new
    stops bytes st =
        let at = st.0.taken.taken in
        let le = st.1 in
        let cap = g.0 in
        x (omega arith)

    halts : (bytes : List ℕ) (y : Stop) → new.phase ≡ phase.Stopped → y ≡ exceeded old.meter → NextCases gate bytes piece (Err (exceeded old.meter)) new after → HaltCases gate bytes piece after y
    halts bytes y ep e n =
        let x : HaltCases gate bytes piece after (exceeded old.meter) = (n.0, n.1, n.2, n.4, subst (StaysWhole gate (bytes ++ take n.0 piece)) (whole_stopped new after ep) n.5) in
        subst (HaltCases gate bytes piece after) (sym e) x

-- ---- a whole piece

pub passes_skip : (gate : Gate) (piece : List ℕ) (used : ℕ) (old new : Seen) (before after : Tally) → Passes gate piece (Some used) old before new after → length piece ≤ used
    → SkipTells gate piece (Ok tt) old before new after
unfolding PassTells SkipTells
passes_skip gate piece used old new before after h all = λ bytes st.
    let x = h.tells bytes st in
    let le = x.0 in
    let n : used ≡ length piece = omega arith in
    subst (λ xs. StandsFor gate (bytes ++ xs) new after) (ap (λ k. take k piece) n ∙ take_whole piece) x.1

pub halted : (gate : Gate) (piece : List ℕ) (why : Stop) (old mid new : Seen) (before after : Tally) → Passes gate piece None old before mid after
    → AnswersStop why mid new → (bytes : List ℕ) → StandsFor gate bytes old before → StopCases gate bytes piece why new after
unfolding PassTells HasRefused IsSpent
halted gate piece why old mid new before after h a bytes st =
    let x = h.tells bytes st in
    subst (λ y. StopCases gate bytes piece y new after) (sym a.is) (go mid.meter.stop x.0 refl x.1)
  where
    go : (y : Stop) → mid.phase ≡ phase.Stopped → mid.meter.stop ≡ y → HaltCases gate bytes piece after y → StopCases gate bytes piece y new after
    go (stop.Refused refusal) ep es x =
        (x.0, x.1, x.2, (a.phase ∙ ep, a.stop_is ∙ ap stop_after es), x.3, subst (StaysWhole gate (bytes ++ take x.0 piece)) (sym (whole_stopped new after (a.phase ∙ ep))) x.4)
    go stop.OutOfMemory ep es x = (a.phase ∙ ep, a.stop_is ∙ ap stop_after es)
    go stop.Spent ep es x = x

pub halts_skip : (gate : Gate) (piece : List ℕ) (why : Stop) (old mid new : Seen) (before after : Tally) → Passes gate piece None old before mid after
    → AnswersStop why mid new → SkipTells gate piece (Err why) old before new after
unfolding SkipTells
halts_skip = halted

pub halts_next : (gate : Gate) (piece : List ℕ) (why : Stop) (old mid new : Seen) (before after : Tally) → Passes gate piece None old before mid after
    → AnswersStop why mid new → NextTells gate piece (Err why) old before new after
unfolding NextTells
halts_next = halted

pub halts_memory : (gate : Gate) (piece : List ℕ) (why : Stop) (old mid new : Seen) (before between : Tally) → Passes gate piece None old before mid between
    → AnswersStop why mid new → SkipMemoryFree gate piece (Err why) old before
unfolding PassInside SkipMemoryFree
halts_memory gate piece why old mid new before between h a = λ front cut label st comes other inside none.
    h.inside front cut label st comes inside other (sym a.is ∙ the_stop why (Err why) refl none)
  where
    the_stop : (why : Stop) (x : Result (Unit {0}) Stop) → x ≡ Err why → x ≡ Err stop.OutOfMemory → why ≡ stop.OutOfMemory
    the_stop why x e none = let same = sym e ∙ none in cc

-- a piece that is within the limit
pub can_pass : (piece : List ℕ) (r : Seen) → length piece ≤ r.meter.limits.bytes - r.meter.at → r.meter.limits.bytes < 2 ^ 64 → IsBytes piece → CanPass r piece
can_pass piece r le most all = record {
  within = record {
    is_front = sym (take_whole piece);
    short = omega arith;
    fits = le;
    room = λ some. omega arith;
    full = λ less. absurd (omega arith);
  };
  all_bytes = all;
}

pub front_can_pass : (piece front : List ℕ) (r : Seen) → IsWithin r piece front → IsBytes front → CanPass r front
front_can_pass piece front r w all = record {
  within = record {
    is_front = sym (take_whole front);
    short = omega arith;
    fits = w.fits;
    room = w.room;
    full = λ less. absurd (omega arith);
  };
  all_bytes = all;
}

-- a step that answers how much was taken

pub quiet_step : (gate : Gate) (took : Taken) (result : Passed) (piece : List ℕ) (old new : Seen) (tally : Tally) → TakesFromFor gate took piece old new
    → result ≡ passed_of took (length piece) → IsQuiet old.phase → CanPass old piece → Passes gate piece (bytes_passed result) old tally new tally
quiet_step gate took result piece old new tally k e q can = rw e (quiet_passes gate took piece old new tally k q can)

pub some_step : (gate : Gate) (took : Taken) (result : Passed) (piece : List ℕ) (old new : Seen) → TakesFromFor gate took piece old new
    → result ≡ passed_of took (length piece) → 0 < length piece → HasPassed piece (bytes_passed result)
some_step gate took result piece old new k e some = rw e (some_passed gate took piece old new k some)

-- a tag, which is counted

pub tag_ends : (gate : Gate) (found : Flow) (piece : List ℕ) (old new : Seen) (before after : Tally) → TakesByte (get_or piece 0 0) found old new → found ≡ flow.On → IsOne old.phase
    → 0 < length piece → CountsNext old (get_or piece 0 0) before after → IsGate gate → CanPass old piece → Passes gate piece (Some 1) old before new after
tag_ends gate found piece old new before after h e one some c g can =
    passes_end gate 1 (taken.Ended 1) piece old new before after
    (one_taken (get_or piece 0 0) flow.On (taken.Ended 1) piece old new (subst (λ b. TakesByte (get_or piece 0 0) b old new) e h) refl refl some one gate) refl c g can

pub tag_stops : (gate : Gate) (found : Flow) (piece : List ℕ) (old new : Seen) (before after : Tally) → TakesByte (get_or piece 0 0) found old new → found ≡ flow.Stopped → IsOne old.phase
    → 0 < length piece → after.begun ≡ begun_next old before → CanPass old piece → Passes gate piece None old before new after
tag_stops gate found piece old new before after h e one some eb can =
    passes_stop gate 1 (taken.Stopped 1) piece old new before after
    (one_taken (get_or piece 0 0) flow.Stopped (taken.Stopped 1) piece old new (subst (λ b. TakesByte (get_or piece 0 0) b old new) e h) refl refl some one gate) refl can eb

pub quiet_in : (p : Phase) (r : Seen) → r.phase ≡ p → IsQuiet p → IsQuiet r.phase
quiet_in p r e q = subst IsQuiet (sym e) q

-- a step on what is left of a piece after the bytes that were taken

split_there : (piece rest : List ℕ) (used : ℕ) → rest ≡ drop used piece → piece ≡ take used piece ++ rest
split_there piece rest used e = sym (take-append-drop used piece) ∙ ap (λ xs. take used piece ++ xs) (sym e)

pub then_passes : (gate : Gate) (piece rest : List ℕ) (used k : ℕ) (old mid new : Seen) (before between after : Tally) → Passes gate piece (Some used) old before mid between
    → Passes gate rest (Some k) mid between new after → rest ≡ drop used piece → Passes gate piece (Some (used + k)) old before new after
then_passes gate piece rest used k old mid new before between after h g e =
    pass_on gate piece rest used k old mid new before between after h g (split_there piece rest used e)

pub then_halts : (gate : Gate) (piece rest : List ℕ) (used : ℕ) (old mid new : Seen) (before between after : Tally) → Passes gate piece (Some used) old before mid between
    → Passes gate rest None mid between new after → rest ≡ drop used piece → Passes gate piece None old before new after
then_halts gate piece rest used old mid new before between after h g e =
    pass_halts gate piece rest used old mid new before between after h g (split_there piece rest used e)

-- such a machine has not stopped
pub quiet_goes_on : (r : Seen) → IsQuiet r.phase → r.phase ≡ phase.Stopped → ⊥
quiet_goes_on r q e = subst IsQuiet e q
