-- Items are the tokens: what a reader's calls say of the tokens that it took and the item that it lends.
use Rattle.std.proofs.Common.{◌≡◌, ◌⊎◌, inl, inr, ℕ, zero, suc, ◌<◌, ◌≤◌, List, [], ◌∷◌, ◌++◌, length, take, get_or, Ok, Err, refl, sym, ◌∙◌, ap, ap₂, subst, arith, append_assoc, append-nil, length-append, length-take-le}
use Rattle.jser_grammar.specs.Parts.{IsBytes}
use Rattle.jser_reading.specs.TokensFromBytes.{number_of}
use Rattle.jser_reading.specs.Labels.{Piece, piece}
use Rattle.jser_reading.specs.TokenBytes.{joined}
use Rattle.jser_reading.specs.Goals.{settled}
use Rattle.jser_reading.specs.Accepts.{label_of}
use Rattle.jser_reading.specs.Machine.{begin_state, Runs, left}
use Rattle.jser_reading.specs.ComesNext.{ComesNext}
use Rattle.jser_reading.proofs.Next.{next_law}
use Rattle.jser_verdict.specs.Gates.{Gate, IsGate}
use Rattle.jser_verdict.specs.Passing.{Passes}
use Rattle.jser_verdict.proofs.ByteLists.{bytes_both, bytes_right}
use Rattle.jser_reader.specs.declared.machine.flow.Flow.TheVariants as flow
use Rattle.jser_reader.specs.declared.item.Item.{Item}
use Rattle.jser_reader.specs.declared.item.Step.{Step}
use Rattle.jser_reader.specs.declared.item.Step.TheVariants as step
use Rattle.jser_reader.specs.declared.item.Totals.{Totals}
use Rattle.jser_reader.specs.declared.gate.Limits.{Limits}
use Rattle.jser_reader.specs.Gates.{AreLimitsOf}
use Rattle.jser_reader.specs.declared.machine.take.taken.Taken.{Taken}
use Rattle.jser_reader.specs.declared.machine.take.taken.Taken.TheVariants as taken
use Rattle.jser_reader.specs.declared.phase.Phase.{Phase}
use Rattle.jser_reader.specs.declared.phase.Phase.TheVariants as phase
use Rattle.jser_reader.specs.declared.refusal.Stop.{Stop}
use Rattle.jser_reader.specs.declared.tally.Tally.{Tally}
use Rattle.jser_reader.specs.Readers.{Seen}
use Rattle.jser_reader.specs.States.{HasLimits, IsWithin}
use Rattle.jser_reader.specs.Walks.{size_of_phase, open_phase, cut_of, Stands, Takes, Keeps, IsNew}
use Rattle.jser_reader.specs.Tallies.{no_tally, tally_next, CountsNext, HasCounted}
use Rattle.jser_reader.specs.Takes.{IsWholeLength, TakenCases, TakesFromFor}
use Rattle.jser_reader.specs.ReaderStates.{IsItem}
use Rattle.jser_reader.specs.ItemsMade.{MakesItem, MakesStep}
use Rattle.jser_reader.specs.ItemsTold.{StandsIn, TokenEnds, IsFull, Lends, TellsItems, TellsTokens}
use Rattle.jser_reader.proofs.StandLemmas.{token_read, took_stands, kept_stands}
use Rattle.jser_reader.proofs.CountLemmas.{new_counts, took_counts, kept_counts, counts_fit, tokens_are}
use Rattle.jser_reader.proofs.PhaseLemmas.{is_open}
use Rattle.jser_reader.proofs.ReaderLemmas.{take_whole, front_of_front, bytes_front, limit_is, token_ends, token_goes_on}
use Rattle.jser_reader.proofs.NextLemmas.{limits_are}
use Rattle.jser_reader.proofs.TotalLemmas.{first_taken}
use Rattle.jser_reader.proofs.StreamWalks.{new_stands, ends_at_top}
use Rattle.jser_reader.proofs.TotalLemmas.{finish_totals}
use Rattle.jser_reader.proofs.ItemStands.{stands_items, first_size_is, text_goes, whole_size, part_size, is_lent, goes_on}

-- ---- the tokens that were taken

pub stands_in : (gate : Gate) (bytes : List ℕ) (front : List Piece) (cut : List ℕ) (r : Seen) (tally : Tally) (c : HasCounted gate bytes r tally)
    → c.taken.tokens ≡ front → c.taken.cut ≡ cut → length bytes ≤ gate.bytes → StandsIn gate front cut r tally
stands_in gate bytes front cut r tally c ef ec le =
    let e : bytes ≡ joined front ++ cut = c.taken.are_tokens ∙ ap₂ (λ f x. joined f ++ x) ef ec in
    subst
    (λ b. (c : HasCounted gate b r tally) → c.taken.tokens ≡ front → c.taken.cut ≡ cut → length b ≤ gate.bytes → StandsIn gate front cut r tally) (sym e)
    (λ c ef ec le. record { counted = c; tokens_are = ef; cut_is = ec; within = le }) c ef ec le

-- where the machine stands then
pub machine_stands : (gate : Gate) (front : List Piece) (cut : List ℕ) (r : Seen) (tally : Tally) → StandsIn gate front cut r tally
    → Stands gate r (settled (left begin_state front)) cut
machine_stands gate front cut r tally h =
    subst (λ c. Stands gate r (settled (left begin_state front)) c) h.cut_is
    (subst (λ f. Stands gate r (settled (left begin_state f)) h.counted.taken.cut) h.tokens_are h.counted.taken.stands)

pub comes_next : (gate : Gate) (front : List Piece) (cut : List ℕ) (r : Seen) (tally : Tally) → StandsIn gate front cut r tally
    → ComesNext front (label_of (settled (left begin_state front)))
comes_next gate front cut r tally h =
    (next_law front (label_of (settled (left begin_state front)))).1 (subst (Runs begin_state) h.tokens_are h.counted.taken.runs, refl)

-- ---- a token ends, or goes on

pub token_ended : (gate : Gate) (given front : List ℕ) (n : ℕ) (old new : Seen) (before after : Tally) (tokens : List Piece) (cut : List ℕ)
    → StandsIn gate tokens cut old before → IsWithin old given front → n ≤ length front → IsBytes given → Takes gate (take n front) flow.On old new
    → after ≡ tally_next old (get_or (take n given) 0 0) before
    → TokenEnds gate tokens (label_of (settled (left begin_state tokens))) (cut ++ take n given) new after
unfolding Takes took_stands took_counts
token_ended gate given front n old new before after tokens cut h w le hb t same =
    let c = h.counted in
    let st = c.taken in
    let some = take n given in
    let t2 : Takes gate (take n given) flow.On old new = subst (λ xs. Takes gate xs flow.On old new) (front_of_front old given front n w le) t in
    let bt = bytes_front n given hb in
    let s = left begin_state st.tokens in
    let l = label_of (settled s) in
    let x = t2 s st.cut st.stands in
    let is : (joined tokens ++ cut) ++ take n given ≡ joined st.tokens ++ (st.cut ++ take n given) =
    ap (λ b. b ++ take n given) st.are_tokens ∙ append_assoc (joined st.tokens) st.cut (take n given) in
    let all : IsBytes ((joined tokens ++ cut) ++ take n given) = bytes_both (joined tokens ++ cut) (take n given) st.all_bytes bt in
    let of_token : IsBytes (st.cut ++ take n given) = bytes_right (joined st.tokens) (st.cut ++ take n given) (subst IsBytes is all) in
    let f = token_read gate st.tokens (st.cut ++ take n given) x.token st.runs x.is_good x.whole of_token in
    let room = (token_ends gate (joined tokens ++ cut) given front n old new w le hb t st h.within).1 in
    let own : TokenEnds gate st.tokens l (st.cut ++ take n given) new (tally_next old (get_or (take n given) 0 0) before) = record {
      token = x.token;
      spelled = sym f.0;
      accepted = f.1;
      stands =
          stands_in gate ((joined tokens ++ cut) ++ take n given) (st.tokens ++ (piece l x.token ∷ [])) [] new
          (tally_next old (get_or (take n given) 0 0) before) (took_counts gate old new (joined tokens ++ cut) (take n given) before t2 bt c) refl refl room;
    } in
    subst (λ a. TokenEnds gate tokens (label_of (settled (left begin_state tokens))) (cut ++ take n given) new a) (sym same)
    (subst (λ b. TokenEnds gate tokens (label_of (settled (left begin_state tokens))) (b ++ take n given) new (tally_next old (get_or (take n given) 0 0) before)) h.cut_is
    (subst (λ g. TokenEnds gate g (label_of (settled (left begin_state g))) (st.cut ++ take n given) new (tally_next old (get_or (take n given) 0 0) before)) h.tokens_are own))

pub token_open : (gate : Gate) (given front : List ℕ) (n : ℕ) (old new : Seen) (tally : Tally) (tokens : List Piece) (cut : List ℕ)
    → StandsIn gate tokens cut old tally → IsWithin old given front → n ≤ length front → IsBytes given → Keeps gate (take n front) old new
    → StandsIn gate tokens (cut ++ take n given) new tally
unfolding Keeps kept_stands kept_counts
token_open gate given front n old new tally tokens cut h w le hb t =
    let k : Keeps gate (take n given) old new = subst (λ xs. Keeps gate xs old new) (front_of_front old given front n w le) t in
    let room = (token_goes_on gate (joined tokens ++ cut) given front n old new w le hb t h.counted.taken h.within).1 in
    stands_in gate ((joined tokens ++ cut) ++ take n given) tokens (cut ++ take n given) new tally
    (kept_counts gate old new (joined tokens ++ cut) (take n given) tally k (bytes_front n given hb) h.counted) h.tokens_are
    (ap (λ c. c ++ take n given) h.cut_is) room

-- ---- the item that is lent

-- what the step makes, of the bytes that were taken of the given piece
made : (p : Phase) (kept : List ℕ) (old : Seen) (given front : List ℕ) (used count : ℕ) (lent : Item) → p ≡ open_phase old → kept ≡ cut_of old
    → take used front ≡ take used given → MakesStep p kept (take used front) (step.Item lent count) → MakesItem (open_phase old) (cut_of old) (take used given) lent
unfolding MakesStep
made p kept old given front used count lent ep ek et h =
    subst (λ xs. MakesItem (open_phase old) (cut_of old) xs lent) et
    (subst (λ c. MakesItem (open_phase old) c (take used front) lent) ek (subst (λ q. MakesItem q kept (take used front) lent) ep h))

pub lends_end : (gate : Gate) (given front : List ℕ) (used : ℕ) (lent : Item) (old new : Seen) (before after : Tally) (tokens : List Piece) (cut : List ℕ)
    → StandsIn gate tokens cut old before → IsWithin old given front → used ≤ length front → IsBytes given → Takes gate (take used front) flow.On old new
    → IsWholeLength (open_phase old) (cut_of old ++ take used front)
    → after ≡ tally_next old (get_or (take used given) 0 0) before → MakesItem (open_phase old) (cut_of old) (take used given) lent
    → Lends gate tokens cut given lent used new after
unfolding Takes
lends_end gate given front used lent old new before after tokens cut st w le hb t whole same m =
    let s = left begin_state tokens in
    let so = machine_stands gate tokens cut old before st in
    let et = front_of_front old given front used w le in
    let x = t s cut so in
    record {
      label = label_of (settled s);
      comes = comes_next gate tokens cut old before st;
      is =
          is_lent (open_phase old) _ cut (cut_of old) (take used given) lent (stands_items old.phase old s cut so.stands)
          (λ some.
          let o = is_open (open_phase old) old (settled s) cut so.stands refl some in (
            o.cut_is,
            subst (λ xs. length (cut ++ xs) ≡ size_of_phase (open_phase old)) et
                (whole_size (open_phase old) old s (cut ++ take used front) o.ready some
                (subst (λ c. IsWholeLength (open_phase old) (c ++ take used front)) (sym o.cut_is) whole) x.whole),
          ))
          m;
      after = inl (token_ended gate given front used old new before after tokens cut st w le hb t same);
    }

pub tells_end : (result : Step) (p : Phase) (kept : List ℕ) (used : ℕ) (took : Taken) (given front : List ℕ) (gate : Gate) (old new : Seen) (before after : Tally)
    → TakesFromFor gate took front old new → took ≡ taken.Ended used → CountsNext old (get_or front 0 0) before after → IsGate gate → IsWithin old given front
    → IsBytes given → IsItem used result → p ≡ open_phase old → kept ≡ cut_of old → MakesStep p kept (take used front) result
    → TellsItems gate given (Ok result) old before new after
unfolding TakesFromFor TellsItems MakesStep
tells_end step.More p kept used took given front gate old new before after k e c g w hb i ep ek m = absurd i
tells_end (step.Item lent count) p kept used took given front gate old new before after k e c g w hb i ep ek m = λ tokens cut st.
    let t = subst (λ x. TakenCases gate x front old new) e k in
    let fit = counts_fit gate (joined tokens ++ cut) old before st.counted st.within g in
    let same : after ≡ tally_next old (get_or (take used given) 0 0) before =
    c fit.0 (fit.1 _) ∙ ap (λ b. tally_next old b before) (sym (first_taken old given front used w t.1 t.0)) in
    subst (λ j. Lends gate tokens cut given lent j new after) (sym i)
    (lends_end gate given front used lent old new before after tokens cut st w t.1 hb t.2 t.3 same
    (made p kept old given front used count lent ep ek (front_of_front old given front used w t.1) m))

-- the part has all of the piece, or the limit is reached
less_or_same : (a b : ℕ) → a ≤ b → (a ≡ b) ⊎ (a < b)
less_or_same zero zero le = inl refl
less_or_same zero (suc b) le = inr (omega arith)
less_or_same (suc a) zero le = absurd (omega arith)
less_or_same (suc a) (suc b) le = elim (less_or_same a b (omega arith)) [
  | inl e ↦ inl (ap (λ n. suc n) e)
  | inr h ↦ inr (omega arith)
]

is_full : (gate : Gate) (given front : List ℕ) (used : ℕ) (old : Seen) (tally : Tally) (tokens : List Piece) (cut : List ℕ)
    → StandsIn gate tokens cut old tally → IsWithin old given front → used ≡ length front → IsFull gate tokens (cut ++ take used given) given used
is_full gate given front used old tally tokens cut st w all = elim (less_or_same (length front) (length given) w.short) [
  | inl e ↦ inl (all ∙ e)
  | inr less ↦ let full = w.full less in
      let at = st.counted.taken.taken in
      let limit = limit_is gate (joined tokens ++ cut) old st.counted.taken in
      let le = st.within in
      let a = length-append (joined tokens) cut in
      let b = length-append cut (take used given) in
      let c = length-append (joined tokens) (cut ++ take used given) in
      let d = length-take-le used given (omega arith) in
      inr (omega arith)
]

pub tells_part : (result : Step) (p : Phase) (kept : List ℕ) (used : ℕ) (took : Taken) (given front : List ℕ) (gate : Gate) (old new : Seen) (tally : Tally)
    → TakesFromFor gate took front old new → took ≡ taken.Part used → IsWithin old given front
    → IsBytes given → IsItem used result → p ≡ open_phase old → kept ≡ cut_of old → MakesStep p kept (take used front) result
    → TellsItems gate given (Ok result) old tally new tally
unfolding TakesFromFor TellsItems MakesStep
tells_part step.More p kept used took given front gate old new tally k e w hb i ep ek m = absurd i
tells_part (step.Item lent count) p kept used took given front gate old new tally k e w hb i ep ek m = λ tokens cut st.
    let t = subst (λ x. TakenCases gate x front old new) e k in
    let et = front_of_front old given front used w t.1 in
    let s = left begin_state tokens in
    let so = machine_stands gate tokens cut old tally st in
    let mi = made p kept old given front used count lent ep ek et m in
    let sn = token_open gate given front used old new tally tokens cut st w t.1 hb t.2 in
    subst (λ j. Lends gate tokens cut given lent j new tally) (sym i) (record {
      label = label_of (settled s);
      comes = comes_next gate tokens cut old tally st;
      is =
          is_lent (open_phase old) _ cut (cut_of old) (take used given) lent (stands_items old.phase old s cut so.stands)
          (λ some.
          let o = is_open (open_phase old) old (settled s) cut so.stands refl some in (
            o.cut_is,
            subst (λ xs. length (cut ++ xs) ≡ size_of_phase (open_phase old)) et
                (ap (λ c. length (c ++ take used front)) o.cut_is ∙ part_size (open_phase old) (cut_of old) front used t.3 some),
          ))
          mi;
      after = inr (record {
        stands = sn;
        full = goes_on (open_phase old) _ cut (cut_of old) front used lent _ (stands_items old.phase old s cut so.stands) t.3
            (λ some long text size.
            let o = is_open (open_phase old) old (settled s) cut so.stands refl some in
            let now = ap (λ c. c ++ take used front) o.cut_is in
            let here = ap (λ xs. cut ++ xs) et in
            subst (λ c. 0 < number_of c) (sym here ∙ now)
            (text_goes new.phase new s (cut ++ take used given) long (machine_stands gate tokens (cut ++ take used given) new tally sn).stands text
            (ap length (sym here ∙ now) ∙ size)))
            (λ all. is_full gate given front used old tally tokens cut st w all)
            (subst (λ xs. MakesItem (open_phase old) (cut_of old) xs lent) (sym et) mi);
      });
    })

-- ---- more bytes are wanted

pub tells_more : (took : Taken) (given front : List ℕ) (gate : Gate) (old new : Seen) (tally : Tally) → TakesFromFor gate took front old new
    → took ≡ taken.Open → IsWithin old given front → IsBytes given → (length front < length given → ⊥)
    → TellsItems gate given (Ok step.More) old tally new tally
unfolding TakesFromFor TellsItems
tells_more took given front gate old new tally k e w hb long = λ tokens cut st.
    let t = subst (λ x. TakenCases gate x front old new) e k in
    let short = w.short in
    let n : length front ≡ length given = omega arith in
    let whole : take (length front) given ≡ given = ap (λ j. take j given) n ∙ take_whole given in
    let open_now =
    token_open gate given front (length front) old new tally tokens cut st w (omega arith) hb (subst (λ xs. Keeps gate xs old new) (sym (take_whole front)) t.0) in
    let sn : StandsIn gate tokens (cut ++ given) new tally = subst (λ xs. StandsIn gate tokens (cut ++ xs) new tally) whole open_now in
    let s = left begin_state tokens in
    let so = machine_stands gate tokens (cut ++ given) new tally sn in
    let long = t.1.some in
    let some : 0 < size_of_phase (open_phase new) = subst (λ p. 0 < size_of_phase p) (sym t.1.same) (omega arith) in
    let o = is_open (open_phase new) new (settled s) (cut ++ given) so.stands refl some in
    let f = first_size_is (open_phase new) (cut ++ given) _ (stands_items new.phase new s (cut ++ given) so.stands) some in
    record {
      label = label_of (settled s);
      comes = comes_next gate tokens cut old tally st;
      short = λ _. let h = o.short in omega arith;
      stands = sn;
    }

pub tells_none : (given : List ℕ) (gate : Gate) (r : Seen) (tally : Tally) → length given ≡ 0 → TellsItems gate given (Ok step.More) r tally r tally
unfolding TellsItems
tells_none (b ∷ given) gate r tally e = absurd (omega arith)
tells_none [] gate r tally e = λ tokens cut st. record {
  label = label_of (settled (left begin_state tokens));
  comes = comes_next gate tokens cut r tally st;
  short = λ some. absurd (omega arith);
  stands = subst (λ xs. StandsIn gate tokens xs r tally) (sym (append-nil cut)) st;
}

pub tells_stop : (given : List ℕ) (why : Stop) (gate : Gate) (old new : Seen) (before after : Tally) → TellsItems gate given (Err why) old before new after
unfolding TellsItems
tells_stop given why gate old new before after = λ tokens cut st. tt

-- ---- the beginning and the end

pub fields_begin : (gate : Gate) (limits : Limits) (r : Seen) → IsNew r → HasLimits limits r
    → AreLimitsOf gate limits → StandsIn gate [] [] r no_tally
unfolding new_counts new_stands
fields_begin gate limits r n l e =
    let c = new_counts gate r n (limits_are gate limits r l e) in
    record { counted = c; tokens_are = refl; cut_is = refl; within = omega arith }

pub tells_tokens : (totals : Totals) (gate : Gate) (r : Seen) (tally : Tally) → r.phase ≡ phase.Top → TellsTokens gate (Ok totals) r tally
unfolding TellsTokens
tells_tokens totals gate r tally top = λ front cut st.
    let so = machine_stands gate front cut r tally st in
    let d = ends_at_top gate r (settled (left begin_state front)) cut so top in
    let same : joined front ++ cut ≡ joined front = ap (λ c. joined front ++ c) d.1 ∙ append-nil (joined front) in
    let x = finish_totals gate (joined front ++ cut) r tally st.counted st.within top in
    (d.1, (x.0, subst (λ b. Passes gate b x.0) same x.1, sym st.tokens_are ∙ tokens_are gate (joined front ++ cut) r x.0 st.counted.taken top x.1.0))

pub tells_no_tokens : (why : Stop) (gate : Gate) (r : Seen) (tally : Tally) → TellsTokens gate (Err why) r tally
unfolding TellsTokens
tells_no_tokens why gate r tally = λ front cut st. tt
