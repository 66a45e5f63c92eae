-- The items that a reader shows of all bytes of a stream, said one after another.
use Rattle.std.proofs.Common.{◌≡◌, ◌≢◌, ◌⊎◌, inl, inr, ℕ, true, List, [], ◌∷◌, ◌++◌, length, Result, Ok, Err, refl, sym, ◌∙◌, ap, subst, arith, append_assoc, append-nil, length-append, ◌+◌, ◌<◌, Bool}
use Rattle.jser_prim.specs.Outgoing.{Outgoing, SinkState, Puts}
use Rattle.jser_prim.proofs.OutgoingLemmas.{puts_both}
use Rattle.jser_grammar.specs.Trees.{ContentTrees}
use Rattle.jser_reading.specs.Accepts.{Accepts}
use Rattle.jser_reading.specs.Labels.{StreamToken, Label, Piece, piece}
use Rattle.jser_reading.specs.Machine.{begin_state, Runs}
use Rattle.jser_reading.specs.TokenBytes.{joined}
use Rattle.jser_reading.proofs.Fronts.{Runs-append}
use Rattle.jser_reading.proofs.Next.{next_law}
use Rattle.jser_shown.specs.Cues.{Teller}
use Rattle.jser_shown.specs.Fronts.{teller_at, said}
use Rattle.jser_shown.specs.FrontLaws.{OneMore}
use Rattle.jser_shown.specs.Owners.{owners_of}
use Rattle.jser_shown.specs.Shown.{shown}
use Rattle.jser_shown.specs.Telling.{begin_telling, goes, settled, tell}
use Rattle.jser_verdict.specs.Passing.{Passes}
use Rattle.jser_reader.specs.Gates.{open_gate}
use Rattle.jser_reader.specs.declared.FeedFault.{FeedFault}
use Rattle.jser_reader.specs.declared.FeedFault.TheVariants as feed_fault
use Rattle.jser_reader.specs.declared.Item.{Item}
use Rattle.jser_reader.specs.declared.Item.TheVariants as item
use Rattle.jser_reader.specs.declared.Stop.{Stop}
use Rattle.jser_reader.specs.declared.Whereabouts.{Whereabouts}
use Rattle.jser_reader.specs.declared.tally.Tally.{Tally}
use Rattle.jser_reader.specs.Feeds.{FeedVisits}
use Rattle.jser_reader.specs.ItemsTold.{StandsIn, MayGoOn}
use Rattle.jser_reader.specs.Readers.{Seen}
use Rattle.jser_reader.specs.Visits.{Spot, bytes_at, EndsToken, StaysInToken, EndsCall, IsShown, Visited}
use Rattle.jser_reader.proofs.FeedLemmas.{next_bytes}
use Rattle.jser_reader.proofs.FurtherLemmas.{one_more}
use Rattle.jser_reader.proofs.VisitLemmas.{visited_keeps}
use Rattle.jser_printer.specs.Passing.{says_next}
use Rattle.jser_printer.specs.Says.{Says, Begins}
use Rattle.jser_printer.proofs.SaysLemmas.{says_both}
use Rattle.jser_index.specs.declared.show.Halt.{Halt}
use Rattle.jser_index.specs.declared.show.Halt.TheVariants as halt
use Rattle.jser_index.specs.Along.{Ends, IsLength}
use Rattle.jser_index.specs.declared.show.Writer.{Writer}
use Rattle.jser_index.specs.SaidItems.{SaysItem, BeginsItem, Halts, HoldsOn}
use Rattle.jser_index.specs.Showing.{PutsText, PutsSome, PutsFront}
use Rattle.jser_index.proofs.AlongLemmas.{token_ends}
use Rattle.jser_index.proofs.FedLemmas.{Here, shown_on, short_on, along_of, not_over}
use Rattle.jser_index.proofs.PassLemmas.{BeginsList, begins_runs, not_stuck}
use Rattle.jser_index.proofs.ShowLemmas.{HasSaid, SaysAlong, ShowLaws, said_none, says_one, says_front, put_behind, text_after}

-- ---- an item

pub says_item : (lent : Item) (a b : Outgoing) (d e : SinkState) (walk next : Teller) → ((told : StreamToken) → Ends lent told → Says a b d e (λ k. says_next walk told k))
    → ((told : StreamToken) → Ends lent told → next ≡ goes (settled walk) told) → (IsLength lent → Says a b d e (λ k. k) × (next ≡ walk)) → SaysItem lent a b d e walk next
says_item lent a b d e walk next said goes_on same = record { said = said; goes_on = goes_on; same = same }

pub begins_item : (lent : Item) (a b : Outgoing) (d e : SinkState) (walk : Teller) → ((told : StreamToken) → Ends lent told → Begins a b d e (λ k. says_next walk told k))
    → (IsLength lent → ⊥) → BeginsItem lent a b d e walk
begins_item lent a b d e walk begun no_length = record { begun = begun; no_length = no_length }

say_on : OneMore → (all : ℕ) (at to : Spot) (lent : Item) (w : Whereabouts) (start walk next : Teller) (a b c : Outgoing) (d e f : SinkState)
    → Here all (λ front. HasSaid start a b d e walk front) at → IsShown open_gate all at lent w to → SaysItem lent b c e f walk next
    → Here all (λ front. HasSaid start a c d f next front) to
say_on more all at to lent w start walk next a b c d e f h n s =
    shown_on all at to lent w (λ front. HasSaid start a b d e walk front) (λ front. HasSaid start a c d f next front) h n (record {
      ended = λ label told comes ends place had.
          says_one start walk next at.front label told a b c d e f more had (s.said told ends) (s.goes_on told ends);
      same = λ l had. record {
        walk_is = (s.same l).1 ∙ had.walk_is;
        text = says_both a b c d e f (λ k. said start at.front k) (λ k. k) had.text (s.same l).0;
      };
    })

-- ---- where it stops

-- the bytes behind the tokens before an item
behind_front : (bytes rest : List ℕ) (at to : Spot) (lent : Item) (w : Whereabouts) → bytes ≡ bytes_at to ++ rest → (n : IsShown open_gate (length bytes) at lent w to)
    → bytes ≡ joined at.front ++ (at.cut ++ (n.next.taken ++ rest))
behind_front bytes rest at to lent w split n =
    split ∙ ap (λ xs. xs ++ rest) (next_bytes at lent to n.next) ∙ append_assoc (bytes_at at) n.next.taken rest ∙ append_assoc (joined at.front) at.cut (n.next.taken ++ rest)

-- the sink has failed
pub halted_off : (bytes rest : List ℕ) (at to : Spot) (lent : Item) (w : Whereabouts) (start walk : Teller) (a b c : Outgoing) (d e f : SinkState) → ShowLaws
    → Here (length bytes) (λ front. HasSaid start a b d e walk front) at → IsShown open_gate (length bytes) at lent w to → bytes ≡ bytes_at to ++ rest
    → (b.failed ≡ true) × (c ≡ b) × (f ≡ e) → PutsText bytes start a c d f
unfolding PutsText
halted_off bytes rest at to lent w start walk a b c d e f laws (inl (between, had)) n split (off, same, same_sink) = λ values list p begin.
    let runs = ((next_law at.front n.next.label).0 n.next.comes).0 in
    let x = begins_runs bytes (at.cut ++ (n.next.taken ++ rest)) at.front list runs (behind_front bytes rest at to lent w split n) p in
    let left = tell (teller_at start at.front) x.later in
    let is = text_after values start list bytes at.front x.later laws p begin x.is ∙ had.text.is left in
    let put = subst (λ xs. Puts a b d e xs) (sym is) (put_behind a b d e had.text.bytes left had.text.puts off) in
    subst (λ o. Puts a o d f (shown values list)) (sym same) (subst (λ s. Puts a b d s (shown values list)) (sym same_sink) put)
halted_off bytes rest at to lent w start walk a b c d e f laws (inr over) n split off = λ values list p begin.
    absurd (not_over bytes rest at to lent w split p.2 n over)

-- memory ran out within a token
begun_text : (values : Bool) (list : ContentTrees) (bytes : List ℕ) (start walk : Teller) (front : List Piece) (label : Label) (told : StreamToken) (a b c : Outgoing) (d e f : SinkState)
    → OneMore → ShowLaws → Passes open_gate bytes list → start ≡ begin_telling values (owners_of list) → BeginsList (front ++ (piece label told ∷ [])) list
    → HasSaid start a b d e walk front → Begins b c e f (λ k. says_next walk told k) → PutsSome a c d f (shown values list)
begun_text values list bytes start walk front label told a b c d e f more laws p begin so_far h begun =
    let all = front ++ (piece label told ∷ []) in
    let one = more start front label told in
    let to_come = tell (teller_at start all) so_far.later in
    record {
      front = h.text.bytes ++ begun.said.bytes;
      left = begun.left to_come;
      split =
          text_after values start list bytes all so_far.later laws p begin so_far.is ∙ one.1 to_come
          ∙ ap (λ w. said start front (says_next w told to_come)) (sym h.walk_is)
          ∙ h.text.is (says_next walk told to_come)
          ∙ ap (λ xs. h.text.bytes ++ xs) (begun.said.is to_come) ∙ sym (append_assoc h.text.bytes begun.said.bytes (begun.left to_come));
      puts = puts_both a b c d e f h.text.bytes begun.said.bytes h.text.puts begun.said.puts;
    }

some_cut : (cut taken to : List ℕ) → to ≡ cut ++ taken → 0 < length taken → to ≢ []
some_cut cut taken to is some none =
    let a = ap length is in
    let b = length-append cut taken in
    let c = ap length none in
    omega arith

pub halted_out : (bytes rest : List ℕ) (at to : Spot) (lent : Item) (w : Whereabouts) (start walk : Teller) (a b c : Outgoing) (d e f : SinkState) → OneMore → ShowLaws
    → Here (length bytes) (λ front. HasSaid start a b d e walk front) at → IsShown open_gate (length bytes) at lent w to → bytes ≡ bytes_at to ++ rest
    → BeginsItem lent b c e f walk → PutsFront bytes start a c d f
unfolding PutsFront
halted_out bytes rest at to lent w start walk a b c d e f more laws (inr over) n split begun = λ values list p begin.
    absurd (not_over bytes rest at to lent w split p.2 n over)
halted_out bytes rest at to lent w start walk a b c d e f more laws (inl (between, had)) n split begun = λ values list p begin. cases values list p begin n.next.after
  where
    no_part : (list : ContentTrees) → Passes open_gate bytes list → to.cut ≡ at.cut ++ n.next.taken → (to.cut ≡ []) ⊎ EndsCall open_gate (length bytes) to → ⊥
    no_part list p is (inl none) = some_cut at.cut n.next.taken to.cut is n.next.some none
    no_part list p is (inr end) =
        not_stuck bytes rest to.front to.cut end.reader end.tally list split end.reads p
        (record { some = some_cut at.cut n.next.taken to.cut is n.next.some; at_end = stuck end.at_end })
      where
        none_left : (xs : List ℕ) → length bytes ≡ length (bytes_at to) + length xs → length (bytes_at to) ≡ length bytes → xs ≡ []
        none_left [] size e = refl
        none_left (x ∷ xs) size e = absurd (omega arith)

        stuck : (length (bytes_at to) ≡ length bytes) ⊎ (length (bytes_at to) ≡ open_gate.bytes) → (rest ≡ []) ⊎ (length (joined to.front ++ to.cut) ≡ open_gate.bytes)
        stuck (inl e) = inl (none_left rest (ap length split ∙ length-append (bytes_at to) rest) e)
        stuck (inr e) = inr e

    part : (lent : Item) → (list : ContentTrees) → Passes open_gate bytes list → MayGoOn lent (Unit {0}) → to.cut ≡ at.cut ++ n.next.taken
        → (to.cut ≡ []) ⊎ MayGoOn lent (EndsCall open_gate (length bytes) to) → (IsLength lent → ⊥) → ⊥
    part (item.TextLength k) list p may is full none = none may
    part (item.TextPart text) list p may is full none = no_part list p is full
    part (item.RawPart raw) list p may is full none = no_part list p is full
    part _ list p may is full none = may

    cases : (values : Bool) (list : ContentTrees) → Passes open_gate bytes list → start ≡ begin_telling values (owners_of list)
        → EndsToken at n.next.label (at.cut ++ n.next.taken) to ⊎ StaysInToken at (at.cut ++ n.next.taken) lent to → PutsSome a c d f (shown values list)
    cases values list p begin (inl t) =
        let next = (next_law at.front n.next.label).0 n.next.comes in
        let runs : Runs begin_state (at.front ++ (piece n.next.label t.token ∷ [])) =
        Runs-append at.front (piece n.next.label t.token ∷ []) begin_state next.0 (next.1, subst (λ l. Accepts l t.token) next.1 t.accepted, tt) in
        let all : bytes ≡ joined (at.front ++ (piece n.next.label t.token ∷ [])) ++ rest =
        behind_front bytes rest at to lent w split n ∙ ap (λ xs. joined at.front ++ xs) (sym (append_assoc at.cut n.next.taken rest))
        ∙ sym (append_assoc (joined at.front) (at.cut ++ n.next.taken) rest)
        ∙ ap (λ xs. xs ++ rest) (ap (λ xs. joined at.front ++ xs) (sym t.spelled) ∙ sym (one_more at.front n.next.label t.token)) in
        begun_text values list bytes start walk at.front n.next.label t.token a b c d e f more laws p begin
        (begins_runs bytes rest (at.front ++ (piece n.next.label t.token ∷ [])) list runs all p) had
        (begun.begun t.token (token_ends at.front at.cut n.next.taken lent n.next.label t.token between n.next.comes t.accepted t.spelled n.next.some n.next.is))
    cases values list p begin (inr o) = absurd (part lent list p o.may o.cut_is n.full begun.no_length)

-- ---- the references of a writer

holds_none : {W : Type 0} (y : Writer W) → HoldsOn y y
holds_none y = (refl, refl, refl, refl)

holds_both : {W : Type 0} (y z w : Writer W) → HoldsOn y z → HoldsOn z w → HoldsOn y w
holds_both y z w (a, b, c, d) (e, f, g, h) = (e ∙ a, f ∙ b, g ∙ c, h ∙ d)

-- ---- all items

module _ {S : Type 0} (x : S) (out : S → Outgoing) (sink : S → SinkState) (walk : S → Teller) (Holds : S → S → Type 0) (more : OneMore) (laws : ShowLaws) (bytes : List ℕ) where
  abbrev TakesItem : Item → Whereabouts → S → S → Type 0
  TakesItem lent w y z = SaysItem lent (out y) (out z) (sink y) (sink z) (walk y) (walk z) × Holds y z

  abbrev StopsAt : Item → Halt → S → S → Type 0
  StopsAt lent why y z = Halts why lent (out y) (out z) (sink y) (sink z) (walk y) × Holds y z

  abbrev HasSaidTo : S → List Piece → Type 0
  HasSaidTo z front = HasSaid (walk x) (out x) (out z) (sink x) (sink z) (walk z) front

  said_at : {to : Spot} {y : S} → Visited TakesItem open_gate (length bytes) (record { front = []; cut = [] }) x to y → Here (length bytes) (HasSaidTo y) to
  said_at v =
      visited_keeps TakesItem open_gate (length bytes) (λ at z. Here (length bytes) (HasSaidTo z) at)
      (λ at to lent w y z h n t. say_on more (length bytes) at to lent w (walk x) (walk y) (walk z) (out x) (out y) (out z) (sink x) (sink y) (sink z) h n t.0)
      (λ at to y h s e. short_on (length bytes) at to (HasSaidTo y) s e) (record { front = []; cut = [] }) x
      (inl (inl refl, said_none (walk x) (out x) (sink x))) v

  pub fed_said : (old new : Seen) (before after : Tally) (y : S) → StandsIn open_gate [] [] old before
      → FeedVisits TakesItem StopsAt open_gate bytes (Ok tt) old before new after x y → SaysAlong bytes [] new after (walk x) (out x) (out y) (sink x) (sink y) (walk y)
  unfolding FeedVisits
  fed_said old new before after y st visits =
      let v = visits (record { front = []; cut = [] }) st in
      along_of bytes [] v.to new after (HasSaidTo y) (sym v.bytes ∙ sym (append-nil (bytes_at v.to))) v.reads (said_at v.visited)

  pub fed_front : (fault : FeedFault Halt) (why : Stop) (old new : Seen) (before after : Tally) (y : S) → fault ≡ feed_fault.Reader why → StandsIn open_gate [] [] old before
      → FeedVisits TakesItem StopsAt open_gate bytes (Err fault) old before new after x y → PutsFront bytes (walk x) (out x) (out y) (sink x) (sink y)
  unfolding FeedVisits
  fed_front fault why old new before after y is st visits =
      let v = subst (λ f. FeedVisits TakesItem StopsAt open_gate bytes (Err f) old before new after x y) is visits (record { front = []; cut = [] }) st in
      says_front bytes v.rest v.reader v.tally (walk x) (walk y) (out x) (out y) (sink x) (sink y) laws
      (along_of bytes v.rest v.to v.reader v.tally (HasSaidTo y) (v.split ∙ ap (λ xs. xs ++ v.rest) (sym v.bytes)) v.reads (said_at v.visited))

  pub fed_off : (fault : FeedFault Halt) (old new : Seen) (before after : Tally) (y : S) → fault ≡ feed_fault.Visitor halt.Sink → StandsIn open_gate [] [] old before
      → FeedVisits TakesItem StopsAt open_gate bytes (Err fault) old before new after x y → PutsText bytes (walk x) (out x) (out y) (sink x) (sink y)
  unfolding FeedVisits
  fed_off fault old new before after y is st visits =
      let v = subst (λ f. FeedVisits TakesItem StopsAt open_gate bytes (Err f) old before new after x y) is visits (record { front = []; cut = [] }) st in
      halted_off bytes v.rest v.at v.to v.lent v.whereabouts (walk x) (walk v.last) (out x) (out v.last) (out y) (sink x) (sink v.last) (sink y) laws (said_at v.visited) v.next v.split
      v.stopped.0

  pub fed_out : (fault : FeedFault Halt) (old new : Seen) (before after : Tally) (y : S) → fault ≡ feed_fault.Visitor halt.OutOfMemory → StandsIn open_gate [] [] old before
      → FeedVisits TakesItem StopsAt open_gate bytes (Err fault) old before new after x y → PutsFront bytes (walk x) (out x) (out y) (sink x) (sink y)
  unfolding FeedVisits
  fed_out fault old new before after y is st visits =
      let v = subst (λ f. FeedVisits TakesItem StopsAt open_gate bytes (Err f) old before new after x y) is visits (record { front = []; cut = [] }) st in
      halted_out bytes v.rest v.at v.to v.lent v.whereabouts (walk x) (walk v.last) (out x) (out v.last) (out y) (sink x) (sink v.last) (sink y) more laws (said_at v.visited) v.next v.split
      v.stopped.0

module _ {W : Type 0} (x : Writer W) (sink : W → SinkState) (more : OneMore) (laws : ShowLaws) (bytes : List ℕ) where
  abbrev TakesThrough : Item → Whereabouts → Writer W → Writer W → Type 0
  TakesThrough = TakesItem x (λ w. w.outbox.now) (λ w. sink w.sink.now) (λ w. w.printer.now) HoldsOn more laws bytes

  abbrev StopsThrough : Item → Halt → Writer W → Writer W → Type 0
  StopsThrough = StopsAt x (λ w. w.outbox.now) (λ w. sink w.sink.now) (λ w. w.printer.now) HoldsOn more laws bytes

  held_at : {to : Spot} {y : Writer W} → Visited TakesThrough open_gate (length bytes) (record { front = []; cut = [] }) x to y → HoldsOn x y
  held_at v =
      visited_keeps TakesThrough open_gate (length bytes) (λ at z. HoldsOn x z) (λ at to lent w y z h n t. holds_both x y z h t.1) (λ at to y h s e. h)
      (record { front = []; cut = [] }) x (holds_none x) v

  pub fed_holds : (result : Result (Unit {0}) (FeedFault Halt)) (old new : Seen) (before after : Tally) (y : Writer W) → StandsIn open_gate [] [] old before
      → FeedVisits TakesThrough StopsThrough open_gate bytes result old before new after x y → HoldsOn x y
  unfolding FeedVisits
  fed_holds (Ok _) old new before after y st visits = held_at (visits (record { front = []; cut = [] }) st).visited
  fed_holds (Err (feed_fault.Reader why)) old new before after y st visits = held_at (visits (record { front = []; cut = [] }) st).visited
  fed_holds (Err (feed_fault.Visitor f)) old new before after y st visits =
      let v = visits (record { front = []; cut = [] }) st in
      holds_both x v.last y (held_at v.visited) v.stopped.1
