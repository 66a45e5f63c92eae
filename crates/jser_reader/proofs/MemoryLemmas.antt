-- Calls that do not run out of memory, and how many frames are open.
use Rattle.std.proofs.Common.{◌≡◌, ℕ, ◌+◌, ◌<◌, ◌≤◌, ◌^◌, true, false, List, [], ◌∷◌, ◌++◌, length, take, Result, Ok, Err, refl, sym, ◌∙◌, subst, ap, arith, length-append, length-take-le, inl, inr}
use Rattle.jser_grammar.specs.Parts.{IsBytes}
use Rattle.jser_reading.specs.Labels.{Position, string_at, class_name_at, field_name_at, interface_name_at, block_length_at, raw_at, bytes_at, Label, Piece}
use Rattle.jser_reading.specs.TokenBytes.{joined}
use Rattle.jser_reading.specs.TokensFromBytes.{size_in}
use Rattle.jser_reading.specs.Goals.{State, settled}
use Rattle.jser_reading.specs.Accepts.{label_of}
use Rattle.jser_reading.specs.Machine.{begin_state, Runs, left}
use Rattle.jser_reading.specs.ComesNext.{ComesNext}
use Rattle.jser_reading.proofs.Next.{next_law}
use Rattle.jser_verdict.specs.Gates.{Gate, IsGate}
use Rattle.jser_reader.specs.declared.item.Step.{Step}
use Rattle.jser_reader.specs.declared.machine.take.taken.Taken.{Taken}
use Rattle.jser_reader.specs.declared.machine.take.taken.Taken.TheVariants as taken
use Rattle.jser_reader.specs.declared.phase.Phase.TheVariants as phase
use Rattle.jser_reader.specs.declared.refusal.Stop.{Stop}
use Rattle.jser_reader.specs.declared.refusal.Stop.TheVariants as stop
use Rattle.jser_reader.specs.declared.tally.Tally.{Tally}
use Rattle.jser_reader.specs.Stacks.{FitsDepth}
use Rattle.jser_reader.specs.Memory.{IsCheckedName, IsForgotten, EndsInside, MayRunOut}
use Rattle.jser_reader.specs.Readers.{Seen}
use Rattle.jser_reader.specs.Handlers.{StopsWith}
use Rattle.jser_reader.specs.Walks.{StandsAt, Stands, StopTold, Takes, Keeps}
use Rattle.jser_reader.specs.Takes.{TakenCases, TakesFromFor}
use Rattle.jser_reader.specs.States.{IsWithin, AnswersStop, exceeded}
use Rattle.jser_reader.specs.ItemsTold.{StandsIn}
use Rattle.jser_reader.specs.Bounds.{FramesAreBounded, AreAssigned, MemoryFree}
use Rattle.jser_reader.proofs.DepthLemmas.{frames_fit}
use Rattle.jser_reader.proofs.LabelLemmas.{moment_is}
use Rattle.jser_reader.proofs.PlaceDepths.{depth_within}
use Rattle.jser_reader.proofs.WalkLemmas.{kept_none}
use Rattle.jser_reader.proofs.ReaderLemmas.{front_of_front, token_goes_on, take_whole}

-- ---- the token that is open

-- the machine stands where these tokens lead
pub stands_in : (gate : Gate) (front : List Piece) (cut : List ℕ) (r : Seen) (tally : Tally) → StandsIn gate front cut r tally
    → Stands gate r (settled (left begin_state front)) cut
stands_in gate front cut r tally h =
    subst (λ fs. Stands gate r (settled (left begin_state fs)) cut) h.tokens_are
    (subst (Stands gate r (settled (left begin_state h.counted.taken.tokens))) h.cut_is h.counted.taken.stands)

-- it has not stopped
pub never_stopped : (gate : Gate) (front : List Piece) (cut : List ℕ) (r : Seen) (tally : Tally) → StandsIn gate front cut r tally → r.phase ≡ phase.Stopped → ⊥
never_stopped gate front cut r tally st e =
    subst (λ p. StandsAt p r (settled (left begin_state front)) cut) e (stands_in gate front cut r tally st).stands

-- the label that comes next is that of the state
pub label_next : (front : List Piece) (label : Label) → ComesNext front label → label ≡ label_of (settled (left begin_state front))
label_next front label k = ((next_law front label).0 k).1

-- ---- frames

pub frames_are_bounded : (gate : Gate) (frames : ℕ) (r : Seen) (tally : Tally) → frames ≡ length r.frames → FramesAreBounded gate frames r tally
unfolding FramesAreBounded
frames_are_bounded gate frames r tally e = λ front cut st.
    let s : State = settled (left begin_state front) in
    let taken = st.counted.taken in (
      label_of s,
      (next_law front (label_of s)).1 (subst (λ fs. Runs begin_state fs) st.tokens_are taken.runs, refl),
      subst (λ n. FitsDepth n (label_of s).depth) (sym e) (frames_fit gate r s cut (stands_in gate front cut r tally st)),
      subst (λ fs. (label_of (settled (left begin_state fs))).depth ≤ gate.depth + 1) st.tokens_are (depth_within gate (joined front ++ cut) r taken),
    )

-- ---- handles

pub are_assigned : (gate : Gate) (handles : ℕ) (r : Seen) (tally : Tally) → handles ≡ length r.table.entries → AreAssigned gate handles r tally
unfolding AreAssigned
are_assigned gate handles r tally e = λ front cut label st next.
    let s : State = settled (left begin_state front) in
    ap (λ l. length l.moment.table) (label_next front label next)
    ∙ (ap length (moment_in s) ∙ (ap (λ m. length m.table) (moment_is gate r s cut (stands_in gate front cut r tally st)) ∙ sym e))
  where
    moment_in : (s : State) → (label_of s).moment.table ≡ s.0.table
    moment_in (m, []) = refl
    moment_in (m, goal ∷ goals) = refl

-- ---- where memory may run out

-- the size of a token is known from its beginning, but for texts and raw tokens
same_size : (w : Position) (a b : List ℕ) → (IsForgotten w → ⊥) → (IsCheckedName w → ⊥) → size_in w a ≡ size_in w b
same_size (string_at long) a b f n = absurd (f tt)
same_size (class_name_at role) a b f n = absurd (n tt)
same_size field_name_at a b f n = absurd (f tt)
same_size interface_name_at a b f n = absurd (n tt)
same_size (raw_at c k) a b f n = absurd (f tt)
same_size (bytes_at k) a b f n = absurd (f tt)
same_size (block_length_at true) a b f n = refl
same_size (block_length_at false) a b f n = refl
same_size _ a b f n = refl

-- not before the end of a token that is no checked name
pub not_inside : (w : Position) (cut piece : List ℕ) (n : ℕ) → n ≤ length piece → (IsCheckedName w → ⊥) → EndsInside w (cut ++ piece)
    → MayRunOut w (cut ++ take n piece) → ⊥
not_inside w cut piece n le other short (inl checked) = other checked
not_inside w cut piece n le other short (inr k) =
    let same = same_size w (cut ++ piece) (cut ++ take n piece) k.0 other in
    let whole = k.1 in
    let a : length (cut ++ piece) ≡ length cut + length piece = length-append cut piece in
    let b : length (cut ++ take n piece) ≡ length cut + length (take n piece) = length-append cut (take n piece) in
    let c : length (take n piece) ≡ n = length-take-le n piece le in
    omega arith

not_both : (w : Position) → IsForgotten w → IsCheckedName w → ⊥
not_both (class_name_at role) f c = f
not_both interface_name_at f c = f
not_both _ f c = c

-- not in a token of which nothing is kept
not_in_forgotten : (w : Position) (bytes : List ℕ) → IsForgotten w → MayRunOut w bytes → ⊥
not_in_forgotten w bytes f (inl checked) = not_both w f checked
not_in_forgotten w bytes f (inr k) = k.0 f

-- ---- the answers of a call

pub free_ok : (x : Step) (result : Result Step Stop) (piece : List ℕ) (gate : Gate) (r : Seen) (tally : Tally) → result ≡ Ok x → MemoryFree gate piece result r tally
unfolding MemoryFree
free_ok x result piece gate r tally e = λ front cut label st k. record { forgotten = λ _ none. absurd (cc); inside = λ _ _ none. absurd (cc) }

pub free_stop : (why : Stop) (used : ℕ) (took : Taken) (piece front : List ℕ) (gate : Gate) (old mid new : Seen) (tally : Tally) → TakesFromFor gate took front old mid
    → took ≡ taken.Stopped used → AnswersStop why mid new → IsWithin old piece front → MemoryFree gate piece (Err why) old tally
unfolding MemoryFree TakesFromFor Takes
free_stop why used took piece front gate old mid new tally k e a w = λ before cut label st next.
    let t = subst (λ x. TakenCases gate x front old mid) e k in
    let s : State = left begin_state before in
    let short = w.short in
    let le = t.1 in
    let h = (t.2 s cut (stands_in gate before cut old tally st)).1 in
    let out : mid.meter.stop ≡ stop.OutOfMemory → MayRunOut label.position (cut ++ take used piece) =
    λ es. subst (λ l. MayRunOut l.position (cut ++ take used piece)) (sym (label_next before label next))
    (subst (λ xs. MayRunOut (label_of (settled s)).position (cut ++ xs)) (front_of_front old piece front used w le)
    (subst (StopTold gate s cut (take used front) old.meter.from) es h)) in
    record {
      forgotten = λ f none. not_in_forgotten label.position (cut ++ take used piece) f (out (sym a.is ∙ the_stop why (Err why) refl none));
      inside = λ other inside none. not_inside label.position cut piece used (omega arith) other inside (out (sym a.is ∙ the_stop why (Err why) refl none));
    }
  where
    the_stop : (why : Stop) (x : Result Step Stop) → x ≡ Err why → x ≡ Err stop.OutOfMemory → why ≡ stop.OutOfMemory
    the_stop why x e none = let same = sym e ∙ none in cc

free_over : (why : Stop) (piece front : List ℕ) (gate : Gate) (old mid : Seen) (new : Seen) (tally : Tally) → IsWithin old piece front → IsBytes piece
    → Keeps gate front old mid → (mid.meter.at + 1 < 2 ^ 64 → (why ≡ exceeded mid.meter) × StopsWith (exceeded mid.meter) mid new)
    → IsGate gate → MemoryFree gate piece (Err why) old tally
unfolding MemoryFree
free_over why piece front gate old mid new tally w h k x g = λ before cut label st next.
    let t : take (length front) front ≡ front = take_whole front in
    let y = token_goes_on gate (joined before ++ cut) piece front (length front) old mid w (omega arith) h (subst (λ xs. Keeps gate xs old mid) (sym t) k) st.counted.taken st.within in
    let at = y.0.taken in
    let le = y.1 in
    let cap = g.0 in
    let z = x (omega arith) in
    record { forgotten = λ _ none. other why z.0 (Err why) refl none; inside = λ _ _ none. other why z.0 (Err why) refl none }
  where
    other : (why : Stop) → why ≡ exceeded mid.meter → (x : Result Step Stop) → x ≡ Err why → x ≡ Err stop.OutOfMemory → ⊥
    other why limit x e none = let same = sym e ∙ none in absurd (cc)

pub free_limit : (why : Stop) (took : Taken) (piece front : List ℕ) (gate : Gate) (old mid new : Seen) (tally : Tally) → TakesFromFor gate took front old mid
    → took ≡ taken.Open → (mid.meter.at + 1 < 2 ^ 64 → (why ≡ exceeded mid.meter) × StopsWith (exceeded mid.meter) mid new)
    → IsWithin old piece front → IsBytes piece → IsGate gate → MemoryFree gate piece (Err why) old tally
unfolding TakesFromFor
free_limit why took piece front gate old mid new tally k e x w h g =
    free_over why piece front gate old mid new tally w h (subst (λ x. TakenCases gate x front old mid) e k).0 x g

pub free_full : (why : Stop) (piece front : List ℕ) (gate : Gate) (old new : Seen) (tally : Tally) → IsWithin old piece front → IsBytes piece → length front ≡ 0
    → (old.meter.at + 1 < 2 ^ 64 → (why ≡ exceeded old.meter) × StopsWith (exceeded old.meter) old new)
    → IsGate gate → MemoryFree gate piece (Err why) old tally
free_full why piece front gate old new tally w h none x g = free_over why piece front gate old old new tally w h (no_bytes_kept front none) x g
  where
    no_bytes_kept : (xs : List ℕ) → length xs ≡ 0 → Keeps gate xs old old
    no_bytes_kept [] e = kept_none gate old
    no_bytes_kept (b ∷ xs) e = absurd (omega arith)

pub free_stopped : (why : Stop) (piece : List ℕ) (gate : Gate) (r : Seen) (tally : Tally) → r.phase ≡ phase.Stopped → MemoryFree gate piece (Err why) r tally
unfolding MemoryFree
free_stopped why piece gate r tally e = λ front cut label st k. absurd (never_stopped gate front cut r tally st e)
