-- A whole piece, item by item.
use Rattle.std.proofs.Common.{◌≡◌, ◌⊎◌, inl, inr, ℕ, ◌+◌, ◌<◌, ◌≤◌, List, [], ◌∷◌, ◌++◌, length, take, drop, Result, Ok, Err, refl, sym, ◌∙◌, ap, subst, arith, append_assoc, append-nil, length-append}
use Rattle.std.proofs.lemmas.List.{take-append-drop}
use Rattle.jser_reading.specs.TokenBytes.{joined}
use Rattle.jser_verdict.specs.Gates.{Gate}
use Rattle.jser_reader.specs.declared.item.Item.{Item}
use Rattle.jser_reader.specs.declared.item.Step.TheVariants as step
use Rattle.jser_reader.specs.declared.refusal.Stop.{Stop}
use Rattle.jser_reader.specs.declared.refusal.Stop.TheVariants as stop
use Rattle.jser_reader.specs.declared.tally.Tally.{Tally}
use Rattle.jser_reader.specs.declared.phase.Phase.TheVariants as phase
use Rattle.jser_reader.specs.declared.visit.FeedFault.{FeedFault}
use Rattle.jser_reader.specs.declared.visit.FeedFault.TheVariants as feed_fault
use Rattle.jser_reader.specs.declared.visit.Whereabouts.{Whereabouts}
use Rattle.jser_reader.specs.Feeds.{FeedTells, FeedVisits, FeedStays, VisitedAll, VisitedUpTo, all_after}
use Rattle.jser_reader.specs.ItemsTold.{StandsIn, WantsMore, TellsItems}
use Rattle.jser_reader.specs.Passes.{PassTells}
use Rattle.jser_reader.specs.Readers.{Seen}
use Rattle.jser_reader.specs.ReaderStates.{StandsFor, NextTells, HasRefused, IsSpent}
use Rattle.jser_reader.specs.States.{AnswersStop, stop_after}
use Rattle.jser_reader.specs.Showing.{StepsOn}
use Rattle.jser_reader.specs.Streams.{AreRefused}
use Rattle.jser_reader.specs.Tallies.{whole_of}
use Rattle.jser_reader.specs.Visits.{Spot, bytes_at, EndsToken, StaysInToken, IsNext, Shown, AreShown, TakesAll, StopsAmong, Visited, visited_none, visited_item, visited_short}
use Rattle.jser_reader.specs.WholeContents.{StaysWhole}
use Rattle.jser_reader.proofs.FurtherLemmas.{one_more}
use Rattle.jser_reader.proofs.SkipLemmas.{take_more}

-- ---- what a visitor took

visited_all : {S : Type 0} (takes : Item → Whereabouts → S → S → Type 0) (gate : Gate) (all : ℕ) (items : List Shown) (from : Spot) (x : S) (at to : Spot) (y z : S)
    → Visited takes gate all from x at y → AreShown gate all items at to → TakesAll takes items y z → Visited takes gate all from x to z
visited_all takes gate all [] from x at to y z v n t = subst (λ p. Visited takes gate all from x p z) (sym n) (subst (λ s. Visited takes gate all from x at s) (sym t) v)
visited_all takes gate all (one ∷ more) from x at to y z v n t =
    visited_all takes gate all more from x n.0 to t.0 z (visited_item one.lent one.whereabouts v n.1 t.1) n.2 t.2

-- an item has the next bytes
pub next_bytes : (at : Spot) (lent : Item) (to : Spot) → (n : IsNext at lent to) → bytes_at to ≡ bytes_at at ++ n.taken
next_bytes at lent to n = cases n.after
  where
    cases : EndsToken at n.label (at.cut ++ n.taken) to ⊎ StaysInToken at (at.cut ++ n.taken) lent to → bytes_at to ≡ bytes_at at ++ n.taken
    cases (inl e) =
        ap (λ xs. joined to.front ++ xs) e.cut_is ∙ append-nil (joined to.front) ∙ ap joined e.front_is ∙ one_more at.front n.label e.token
        ∙ ap (λ xs. joined at.front ++ xs) e.spelled ∙ sym (append_assoc (joined at.front) at.cut n.taken)
    cases (inr o) = ap (λ f. joined f ++ to.cut) o.front_is ∙ ap (λ xs. joined at.front ++ xs) o.cut_is ∙ sym (append_assoc (joined at.front) at.cut n.taken)

-- and so have several
shown_bytes : (gate : Gate) (all : ℕ) (items : List Shown) (at to : Spot) → AreShown gate all items at to → (later : List ℕ) × (bytes_at to ≡ bytes_at at ++ later)
shown_bytes gate all [] at to n = ([], ap bytes_at n ∙ sym (append-nil (bytes_at at)))
shown_bytes gate all (one ∷ more) at to n =
    let b = shown_bytes gate all more n.0 to n.2 in
    let first = next_bytes at one.lent n.0 n.1.next in
    (n.1.next.taken ++ b.0, b.1 ∙ ap (λ xs. xs ++ b.0) first ∙ append_assoc (bytes_at at) n.1.next.taken b.0)

visited_up_to : {S F : Type 0} (takes : Item → Whereabouts → S → S → Type 0) (stops : Item → F → S → S → Type 0) (gate : Gate) (all : ℕ) (items : List Shown) (fault : F) (from : Spot)
    (piece rest : List ℕ) (x : S) (at to : Spot) (y z : S) → Visited takes gate all from x at y → AreShown gate all items at to → bytes_at from ++ piece ≡ bytes_at to ++ rest
    → StopsAmong takes stops items fault y z → VisitedUpTo takes stops gate all from piece fault x z
visited_up_to takes stops gate all [] fault from piece rest x at to y z v n split s = absurd s
visited_up_to takes stops gate all (one ∷ more) fault from piece rest x at to y z v n split (inl s) =
    let b = shown_bytes gate all more n.0 to n.2 in
    record {
      at = at;
      last = y;
      visited = v;
      lent = one.lent;
      whereabouts = one.whereabouts;
      to = n.0;
      next = n.1;
      rest = b.0 ++ rest;
      split = split ∙ ap (λ xs. xs ++ rest) b.1 ∙ append_assoc (bytes_at n.0) b.0 rest;
      stopped = s;
    }
visited_up_to takes stops gate all (one ∷ more) fault from piece rest x at to y z v n split (inr s) =
    visited_up_to takes stops gate all more fault from piece rest x n.0 to s.0 z (visited_item one.lent one.whereabouts v n.1 s.1) n.2 split s.2

-- ---- the front of a piece

-- The front of the piece was taken, and this rest is left.
pub record Feeding {S : Type 0} (takes : Item → Whereabouts → S → S → Type 0) (gate : Gate) (piece rest : List ℕ) (first : Seen) (begun : Tally) (start : S) (r : Seen) (tally : Tally) (x : S) : Type 0 where
  pub gone : List ℕ
  pub split : piece ≡ gone ++ rest
  pub tells : (bytes : List ℕ) → StandsFor gate bytes first begun → StandsFor gate (bytes ++ gone) r tally
  pub visits : (from : Spot) → StandsIn gate from.front from.cut first begun → VisitedAll takes gate (all_after from piece) from gone r tally start x

module _ {S : Type 0} (takes : Item → Whereabouts → S → S → Type 0) (gate : Gate) (piece : List ℕ) (first : Seen) (begun : Tally) (start : S) where
  pub feeding_none : Feeding takes gate piece piece first begun start first begun start
  feeding_none = record {
    gone = [];
    split = refl;
    tells = λ bytes st. subst (λ xs. StandsFor gate xs first begun) (sym (append-nil bytes)) st;
    visits = λ from st. record { to = from; bytes = sym (append-nil (bytes_at from)); reads = st; visited = visited_none };
  }

  -- what is left is the rest of all bytes of the call
  left : (from at : Spot) (gone rest : List ℕ) → piece ≡ gone ++ rest → bytes_at at ≡ bytes_at from ++ gone → bytes_at at ++ rest ≡ bytes_at from ++ piece
  left from at gone rest split e = ap (λ xs. xs ++ rest) e ∙ append_assoc (bytes_at from) gone rest ∙ ap (λ xs. bytes_at from ++ xs) (sym split)

  all_left : (from at : Spot) (gone rest : List ℕ) → piece ≡ gone ++ rest → bytes_at at ≡ bytes_at from ++ gone → all_after at rest ≡ all_after from piece
  all_left from at gone rest split e = ap length (left from at gone rest split e)

  pub feeding_step : (rest after : List ℕ) (items : List Shown) (size : ℕ) (old : Seen) (before : Tally) (x : S) (new : Seen) (tally : Tally) (y : S)
      → Feeding takes gate piece rest first begun start old before x → StepsOn gate rest items size old before new tally
      → after ≡ drop size rest → TakesAll takes items x y → Feeding takes gate piece after first begun start new tally y
  unfolding PassTells
  feeding_step rest after items size old before x new tally y h t is did = record {
    gone = h.gone ++ take size rest;
    split =
        h.split ∙ ap (λ xs. h.gone ++ xs) (sym (take-append-drop size rest) ∙ ap (λ xs. take size rest ++ xs) (sym is))
        ∙ sym (append_assoc h.gone (take size rest) after);
    tells = λ bytes st. subst (λ xs. StandsFor gate xs new tally) (append_assoc bytes h.gone (take size rest)) (t.tells (bytes ++ h.gone) (h.tells bytes st)).1;
    visits = λ from st.
        let v = h.visits from st in
        let f = t.shows v.to v.reads in
        record {
          to = f.to;
          bytes = f.bytes ∙ ap (λ xs. xs ++ take size rest) v.bytes ∙ append_assoc (bytes_at from) h.gone (take size rest);
          reads = f.reads;
          visited =
              visited_all takes gate (all_after from piece) items from start v.to f.to x y v.visited
              (subst (λ n. AreShown gate n items v.to f.to) (all_left from v.to h.gone rest h.split v.bytes) f.next) did;
        };
  }

  front_of_piece : (gone rest bytes : List ℕ) (n : ℕ) → piece ≡ gone ++ rest → (bytes ++ gone) ++ take n rest ≡ bytes ++ take (length gone + n) piece
  front_of_piece gone rest bytes n split =
      append_assoc bytes gone (take n rest) ∙ ap (λ xs. bytes ++ xs) (take_more gone rest n ∙ ap (take (length gone + n)) (sym split))

  front_within : (gone rest : List ℕ) (n : ℕ) → piece ≡ gone ++ rest → n ≤ length rest → length gone + n ≤ length piece
  front_within gone rest n split le = let size = ap length split ∙ length-append gone rest in omega arith

  -- ---- its end

  empty : (xs : List ℕ) → (xs ≡ []) ⊎ (0 < length xs)
  empty [] = inl refl
  empty (x ∷ xs) = inr (omega arith)

  pub fed_tells : (F : Type 0) (rest : List ℕ) (old : Seen) (before : Tally) (x : S) (new : Seen) (tally : Tally)
      → Feeding takes gate piece rest first begun start old before x → NextTells gate rest (Ok step.More) old before new tally
      → FeedTells {F = F} gate piece (Ok tt) first begun new tally
  unfolding NextTells FeedTells
  fed_tells F rest old before x new tally h t = λ bytes st.
      subst (λ xs. StandsFor gate xs new tally) (append_assoc bytes h.gone rest ∙ ap (λ xs. bytes ++ xs) (sym h.split)) (t (bytes ++ h.gone) (h.tells bytes st))

  pub fed_visits : {F : Type 0} (stops : Item → F → S → S → Type 0) (rest : List ℕ) (old : Seen) (before : Tally) (x : S) (new : Seen) (tally : Tally)
      → Feeding takes gate piece rest first begun start old before x → TellsItems gate rest (Ok step.More) old before new tally
      → FeedVisits takes stops gate piece (Ok tt) first begun new tally start x
  unfolding TellsItems FeedVisits
  fed_visits stops rest old before x new tally h i = λ from st.
      let v = h.visits from st in
      let w = i v.to.front v.to.cut v.reads in
      cases from v w (empty rest)
    where
      ends : (from : Spot) (v : VisitedAll takes gate (all_after from piece) from h.gone old before start x) → bytes_at v.to ++ rest ≡ bytes_at from ++ piece
      ends from v = ap (λ xs. xs ++ rest) v.bytes ∙ append_assoc (bytes_at from) h.gone rest ∙ ap (λ xs. bytes_at from ++ xs) (sym h.split)

      cases : (from : Spot) (v : VisitedAll takes gate (all_after from piece) from h.gone old before start x) → WantsMore gate v.to.front v.to.cut rest new tally
          → (rest ≡ []) ⊎ (0 < length rest) → VisitedAll takes gate (all_after from piece) from piece new tally start x
      cases from v w (inl none) = record {
        to = v.to;
        bytes = sym (append-nil (bytes_at v.to)) ∙ ap (λ xs. bytes_at v.to ++ xs) (sym none) ∙ ends from v;
        reads = subst (λ cut. StandsIn gate v.to.front cut new tally) (ap (λ xs. v.to.cut ++ xs) none ∙ append-nil v.to.cut) w.stands;
        visited = v.visited;
      }
      cases from v w (inr some) = record {
        to = record { front = v.to.front; cut = v.to.cut ++ rest };
        bytes = sym (append_assoc (joined v.to.front) v.to.cut rest) ∙ ends from v;
        reads = w.stands;
        visited =
            visited_short v.visited
            (record { label = w.label; comes = w.comes; taken = rest; some = some; short = w.short some; front_is = refl; cut_is = refl })
            (ap length (sym (append_assoc (joined v.to.front) v.to.cut rest) ∙ ends from v));
      }

  -- ---- where the reader stops

  pub halts_tells : (F : Type 0) (rest : List ℕ) (why : Stop) (old : Seen) (before : Tally) (x : S) (new : Seen) (tally : Tally)
      → Feeding takes gate piece rest first begun start old before x → NextTells gate rest (Err why) old before new tally
      → FeedTells {F = F} gate piece (Err (feed_fault.Reader why)) first begun new tally
  unfolding NextTells FeedTells
  halts_tells F rest (stop.Refused refusal) old before x new tally h t = λ bytes st.
      let r = t (bytes ++ h.gone) (h.tells bytes st) in
      let same = front_of_piece h.gone rest bytes r.0 h.split in
      let some = r.4 in (
        length h.gone + r.0,
        front_within h.gone rest r.0 h.split r.1,
        subst (λ xs. AreRefused gate xs refusal) same r.2,
        r.3,
        omega arith,
        subst (λ xs. StaysWhole gate xs (whole_of new tally)) same r.5,
      )
  halts_tells F rest stop.OutOfMemory old before x new tally h t = λ bytes st. t (bytes ++ h.gone) (h.tells bytes st)
  halts_tells F rest stop.Spent old before x new tally h t = λ bytes st. t (bytes ++ h.gone) (h.tells bytes st)

  pub halts_visits : {F : Type 0} (stops : Item → F → S → S → Type 0) (rest : List ℕ) (why : Stop) (old : Seen) (before : Tally) (x : S) (new : Seen) (tally : Tally)
      → Feeding takes gate piece rest first begun start old before x → FeedVisits takes stops gate piece (Err (feed_fault.Reader why)) first begun new tally start x
  unfolding FeedVisits
  halts_visits stops rest why old before x new tally h = λ from st.
      let v = h.visits from st in
      record { to = v.to; gone = h.gone; rest = rest; split = h.split; bytes = v.bytes; reader = old; tally = before; reads = v.reads; visited = v.visited }

  -- ---- where the visitor stops

  pub stops_tells : {F : Type 0} (fault : F) (rest : List ℕ) (items : List Shown) (size : ℕ) (old : Seen) (before : Tally) (x : S) (new : Seen) (tally : Tally)
      → Feeding takes gate piece rest first begun start old before x → StepsOn gate rest items size old before new tally
      → FeedTells gate piece (Err (feed_fault.Visitor fault)) first begun new tally
  unfolding PassTells FeedTells
  stops_tells fault rest items size old before x new tally h t = λ bytes st.
      let r = t.tells (bytes ++ h.gone) (h.tells bytes st) in (
        length h.gone + size,
        front_within h.gone rest size h.split r.0,
        subst (λ xs. StandsFor gate xs new tally) (front_of_piece h.gone rest bytes size h.split) r.1,
      )

  pub stops_visits : {F : Type 0} (stops : Item → F → S → S → Type 0) (fault : F) (rest : List ℕ) (items : List Shown) (size : ℕ) (old : Seen) (before : Tally) (x : S) (new : Seen)
      (tally : Tally) (y : S) → Feeding takes gate piece rest first begun start old before x → StepsOn gate rest items size old before new tally
      → StopsAmong takes stops items fault x y → FeedVisits takes stops gate piece (Err (feed_fault.Visitor fault)) first begun new tally start y
  unfolding FeedVisits
  stops_visits stops fault rest items size old before x new tally y h t s = λ from st.
      let v = h.visits from st in
      let f = t.shows v.to v.reads in
      visited_up_to takes stops gate (all_after from piece) items fault from piece (drop size rest) start v.to f.to x y v.visited
      (subst (λ n. AreShown gate n items v.to f.to) (all_left from v.to h.gone rest h.split v.bytes) f.next)
      (sym (left from v.to h.gone rest h.split v.bytes) ∙ ap (λ xs. bytes_at v.to ++ xs) (sym (take-append-drop size rest))
      ∙ sym (append_assoc (bytes_at v.to) (take size rest) (drop size rest)) ∙ ap (λ xs. xs ++ drop size rest) (sym f.bytes)) s

-- ---- a reader that has stopped

pub stopped_feeds : (F : Type 0) (piece : List ℕ) (why : Stop) (gate : Gate) (old new : Seen) (before after : Tally) → ((bytes : List ℕ) → StandsFor gate bytes old before → ⊥)
    → FeedTells {F = F} gate piece (Err (feed_fault.Reader why)) old before new after
unfolding FeedTells
stopped_feeds F piece why gate old new before after n = λ bytes st. absurd (n bytes st)

pub stopped_visits : {S F : Type 0} (takes : Item → Whereabouts → S → S → Type 0) (stops : Item → F → S → S → Type 0) (piece : List ℕ) (why : Stop) (gate : Gate) (old new : Seen) (before after : Tally)
    (x y : S) → ((bytes : List ℕ) → StandsFor gate bytes old before → ⊥) → FeedVisits takes stops gate piece (Err (feed_fault.Reader why)) old before new after x y
unfolding FeedVisits StandsFor
stopped_visits takes stops piece why gate old new before after x y n = λ from st. absurd (n (bytes_at from) (st.counted, st.within))

pub stays_fed : {S : Type 0} (F : Type 0) (why : Stop) (old new : Seen) (x : S) → old.phase ≡ phase.Stopped → AnswersStop why old new
    → FeedStays {F = F} (Err (feed_fault.Reader why)) old new x x
unfolding FeedStays HasRefused IsSpent
stays_fed F why old new x e a = (
  λ refusal h. (ap (λ s. Err (feed_fault.Reader s)) (a.is ∙ h.1), (a.phase ∙ e, a.stop_is ∙ ap stop_after h.1), refl),
  λ h. (ap (λ s. Err (feed_fault.Reader s)) (a.is ∙ h.1), (a.phase ∙ e, a.stop_is ∙ ap stop_after h.1), refl),
)

pub not_stopped_feeds : {S F : Type 0} (result : Result (Unit {0}) (FeedFault F)) (old new : Seen) (x y : S) → (old.phase ≡ phase.Stopped → ⊥) → FeedStays result old new x y
unfolding FeedStays HasRefused IsSpent
not_stopped_feeds result old new x y n = (λ refusal h. absurd (n h.0), λ h. absurd (n h.0))
