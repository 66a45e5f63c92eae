-- Along the items that a reader shows of all bytes of a stream, in one call.
use Rattle.std.proofs.Common.{◌≡◌, ◌≢◌, ◌⊎◌, inl, inr, ℕ, ◌+◌, ◌<◌, ◌≤◌, List, [], ◌∷◌, ◌++◌, length, take, drop, Ok, Err, refl, sym, ◌∙◌, ap, subst, arith, append-nil, length-append}
use Rattle.std.proofs.lemmas.List.{take-append-drop}
use Rattle.jser_reading.specs.Labels.{StreamToken, Label, Piece, piece}
use Rattle.jser_reading.specs.TokenBytes.{bytes_of, joined}
use Rattle.jser_reading.specs.ComesNext.{ComesNext}
use Rattle.jser_shown.specs.Finding.{Finding, begin_finding}
use Rattle.jser_shown.specs.Laws.{PlacesAreCounted}
use Rattle.jser_shown.specs.FrontLaws.{FindsFronts}
use Rattle.jser_reader.specs.Gates.{open_gate}
use Rattle.jser_reader.specs.declared.FeedFault.{FeedFault}
use Rattle.jser_reader.specs.declared.FeedFault.TheVariants as feed_fault
use Rattle.jser_reader.specs.declared.Item.{Item}
use Rattle.jser_reader.specs.declared.Item.TheVariants as item
use Rattle.jser_reader.specs.declared.Stop.{Stop}
use Rattle.jser_reader.specs.declared.Stop.TheVariants as stop
use Rattle.jser_reader.specs.declared.Whereabouts.{Whereabouts}
use Rattle.jser_reader.specs.declared.tally.Tally.{Tally}
use Rattle.jser_reader.specs.Feeds.{FeedTells, FeedVisits}
use Rattle.jser_reader.specs.Items.{items_at, IsLent}
use Rattle.jser_reader.specs.ItemsTold.{StandsIn, MayGoOn}
use Rattle.jser_reader.specs.Readers.{Seen}
use Rattle.jser_reader.specs.Visits.{Spot, bytes_at, EndsToken, StaysInToken, IsShort, EndsCall, IsShown}
use Rattle.jser_reader.proofs.FeedLemmas.{next_bytes}
use Rattle.jser_reader.proofs.RefusalLemmas.{front_refused}
use Rattle.jser_reader.proofs.VisitLemmas.{visited_keeps}
use Rattle.jser_index.specs.Along.{Ends, IsLength, Between, Where, GoesAlong}
use Rattle.jser_index.specs.Reading.{SurveysAlong, Walks}
use Rattle.jser_index.specs.Surveying.{IsAt, Took}
use Rattle.jser_index.proofs.AlongLemmas.{token_ends, text_at}
use Rattle.jser_index.proofs.ReadLemmas.{is_after, at_none}
use Rattle.jser_index.proofs.TurnLemmas.{stands_for}

-- all bytes, or as many as the gate allows
abbrev pub IsAtEnd : (all : ℕ) → Spot → Type 0
IsAtEnd all at = (length (bytes_at at) ≡ all) ⊎ (length (bytes_at at) ≡ open_gate.bytes)

-- more bytes than there are, or than the gate allows
abbrev pub IsPast : (all : ℕ) → Spot → Type 0
IsPast all at = (all < length (bytes_at at)) ⊎ (open_gate.bytes < length (bytes_at at))

-- So far along the bytes: this holds of the tokens that were taken; or they end inside a token.
abbrev pub Here : (all : ℕ) → (P : List Piece → Type 0) → Spot → Type 0
Here all P at = (Between at.front at.cut × P at.front) ⊎ ((at.cut ≢ []) × IsAtEnd all at ⊎ IsPast all at)

-- What is done with an item: what held of the tokens before it, and what holds of those after it.
pub record DoesHere (at : Spot) (lent : Item) (end : ℕ) (P Q : List Piece → Type 0) : Type 0 where
  pub ended : (label : Label) (told : StreamToken) → ComesNext at.front label → Ends lent told → length (joined at.front) + length (bytes_of told) ≡ end → P at.front
      → Q (at.front ++ (piece label told ∷ []))
  pub same : IsLength lent → P at.front → Q at.front

some_cut : (cut taken to : List ℕ) → to ≡ cut ++ taken → 0 < length taken → to ≢ []
some_cut cut taken to is some none =
    let a = ap length is in
    let b = length-append cut taken in
    let c = ap length none in
    omega arith

pub shown_on : (all : ℕ) (at to : Spot) (lent : Item) (w : Whereabouts) (P Q : List Piece → Type 0) → Here all P at → IsShown open_gate all at lent w to
    → DoesHere at lent w.end P Q → Here all Q to
shown_on all at to lent w P Q (inr over) n does = inr (inr (past over))
  where
    longer : length (bytes_at at) < length (bytes_at to)
    longer =
        let a = ap length (next_bytes at lent to n.next) in
        let b = length-append (bytes_at at) n.next.taken in
        let c = n.next.some in
        omega arith

    past : (at.cut ≢ []) × IsAtEnd all at ⊎ IsPast all at → IsPast all to
    past (inl (some, inl e)) = let l = longer in inl (omega arith)
    past (inl (some, inr e)) = let l = longer in inr (omega arith)
    past (inr (inl lt)) = let l = longer in inl (omega arith)
    past (inr (inr lt)) = let l = longer in inr (omega arith)
shown_on all at to lent w P Q (inl (b, p)) n does = cases n.next.after
  where
    goes : (lent : Item) → StaysInToken at (at.cut ++ n.next.taken) lent to → IsLent (items_at n.next.label.position) at.cut n.next.taken lent
        → (to.cut ≡ []) ⊎ MayGoOn lent (EndsCall open_gate all to) → (IsLength lent → P at.front → Q at.front) → Here all Q to
    goes (item.TextLength k) o is full same =
        let t = text_at n.next.label.position at.cut n.next.taken k is in
        inl (
          inr (record {
            label = n.next.label;
            comes = subst (λ f. ComesNext f n.next.label) (sym o.front_is) n.next.comes;
            long = t.0;
            is_text = t.1;
            size = ap length o.cut_is ∙ t.2;
          }),
          subst Q (sym o.front_is) (same o.may p),
        )
    goes (item.TextPart part) o is (inl none) same = absurd (some_cut at.cut n.next.taken to.cut o.cut_is n.next.some none)
    goes (item.TextPart part) o is (inr end) same = inr (inl (some_cut at.cut n.next.taken to.cut o.cut_is n.next.some, end.at_end))
    goes (item.RawPart part) o is (inl none) same = absurd (some_cut at.cut n.next.taken to.cut o.cut_is n.next.some none)
    goes (item.RawPart part) o is (inr end) same = inr (inl (some_cut at.cut n.next.taken to.cut o.cut_is n.next.some, end.at_end))
    goes _ o is full same = absurd o.may

    cases : EndsToken at n.next.label (at.cut ++ n.next.taken) to ⊎ StaysInToken at (at.cut ++ n.next.taken) lent to → Here all Q to
    cases (inl e) =
        let ends = token_ends at.front at.cut n.next.taken lent n.next.label e.token b n.next.comes e.accepted e.spelled n.next.some n.next.is in
        let place : length (joined at.front) + length (bytes_of e.token) ≡ w.end =
        let a = ap length (next_bytes at lent to n.next) in
        let c = length-append (bytes_at at) n.next.taken in
        let d = length-append (joined at.front) at.cut in
        let f = ap length e.spelled in
        let g = length-append at.cut n.next.taken in
        let h = n.end in
        omega arith in
        inl (inl e.cut_is, subst Q (sym e.front_is) (does.ended n.next.label e.token n.next.comes ends place p))
    cases (inr o) = goes lent o n.next.is n.full does.same

pub short_on : (all : ℕ) (at to : Spot) (P : List Piece → Type 0) → IsShort at to → length (bytes_at to) ≡ all → Here all P to
short_on all at to P s e = inr (inl (some_cut at.cut s.taken to.cut s.cut_is s.some, inl e))

-- ---- a first walk

survey_on : FindsFronts → PlacesAreCounted → (all : ℕ) (at to : Spot) (lent : Item) (w : Whereabouts) (y z : Finding) → Here all (λ front. IsAt front y) at → IsShown open_gate all at lent w to
    → Took lent w.handles w.end y z → Here all (λ front. IsAt front z) to
survey_on fronts counted all at to lent w y z h n took =
    shown_on all at to lent w (λ front. IsAt front y) (λ front. IsAt front z) h n (record {
      ended = λ label told comes ends place p.
          is_after at.front label told w.handles y z fronts (n.handles label comes) p
          (took.finds told ends (counted y.place (bytes_of told) ∙ ap (λ k. k + length (bytes_of told)) p.place ∙ place)) (took.place told ends ∙ sym place);
      same = λ l p. subst (λ x. IsAt at.front x) (sym (took.same l)) p;
    })

pub along_of : (bytes rest : List ℕ) (at : Spot) (r : Seen) (tally : Tally) (P : List Piece → Type 0) → bytes ≡ bytes_at at ++ rest → StandsIn open_gate at.front at.cut r tally
    → Here (length bytes) P at → GoesAlong open_gate bytes rest r tally P
along_of bytes rest at r tally P split st h =
    record { front = at.front; cut = at.cut; split = split; stands = st; where_it_is = goes h }
  where
    none_left : (xs : List ℕ) → length bytes ≡ length (bytes_at at) + length xs → length (bytes_at at) ≡ length bytes → xs ≡ []
    none_left [] size e = refl
    none_left (x ∷ xs) size e = absurd (omega arith)

    size : length bytes ≡ length (bytes_at at) + length rest
    size = ap length split ∙ length-append (bytes_at at) rest

    goes : Here (length bytes) P at → Where open_gate P at.front at.cut rest
    goes (inl p) = inl p
    goes (inr (inl (some, inl e))) = inr (record { some = some; at_end = inl (none_left rest size e) })
    goes (inr (inl (some, inr e))) = inr (record { some = some; at_end = inr e })
    goes (inr (inr (inl lt))) = let a = size in absurd (omega arith)
    goes (inr (inr (inr lt))) = let a = st.within in absurd (omega arith)

-- nothing more is shown where they end
pub not_over : (bytes rest : List ℕ) (at to : Spot) (lent : Item) (w : Whereabouts) → bytes ≡ bytes_at to ++ rest → length bytes ≤ open_gate.bytes
    → IsShown open_gate (length bytes) at lent w to → (at.cut ≢ []) × IsAtEnd (length bytes) at ⊎ IsPast (length bytes) at → ⊥
not_over bytes rest at to lent w split within n over = past over
  where
    longer : length (bytes_at at) < length bytes
    longer =
        let a = ap length (next_bytes at lent to n.next) in
        let b = length-append (bytes_at at) n.next.taken in
        let c = n.next.some in
        let d = ap length split in
        let e = length-append (bytes_at to) rest in
        omega arith

    past : (at.cut ≢ []) × IsAtEnd (length bytes) at ⊎ IsPast (length bytes) at → ⊥
    past (inl (some, inl e)) = let l = longer in omega arith
    past (inl (some, inr e)) = let l = longer in omega arith
    past (inr (inl lt)) = let l = longer in omega arith
    past (inr (inr lt)) = let l = longer in omega arith

pub fed_along : {F : Type 0} (stops : Item → F → Finding → Finding → Type 0) (bytes : List ℕ) (old : Seen) (before : Tally) (new : Seen) (after : Tally) (x y : Finding)
    → FindsFronts → PlacesAreCounted → StandsIn open_gate [] [] old before → x ≡ begin_finding
    → FeedVisits (λ lent at a b. Took lent at.handles at.end a b) stops open_gate bytes (Ok tt) old before new after x y → SurveysAlong bytes [] new after y
unfolding FeedVisits
fed_along stops bytes old before new after x y fronts counted st begins visits =
    let v = visits (record { front = []; cut = [] }) st in
    along_of bytes [] v.to new after (λ front. IsAt front y) (sym v.bytes ∙ sym (append-nil (bytes_at v.to))) v.reads
    (visited_keeps (λ lent at a b. Took lent at.handles at.end a b) open_gate (length bytes) (λ at z. Here (length bytes) (λ front. IsAt front z) at)
    (λ at to lent w y z h n t. survey_on fronts counted (length bytes) at to lent w y z h n t) (λ at to y h s e. short_on (length bytes) at to (λ front. IsAt front y) s e)
    (record { front = []; cut = [] }) x (inl (inl refl, at_none x begins)) v.visited)

-- ---- the reader stops

stops_there : (F : Type 0) (bytes : List ℕ) (why : Stop) (old : Seen) (before : Tally) (new : Seen) (after : Tally) (last : Finding) → StandsIn open_gate [] [] old before
    → FeedTells {F = F} open_gate bytes (Err (feed_fault.Reader why)) old before new after → Walks bytes last (Err why)
unfolding FeedTells Walks
stops_there F bytes (stop.Refused refusal) old before new after last st t =
    let x = t [] (stands_for open_gate [] [] old before st) in
    inl (front_refused open_gate (take x.0 bytes) (drop x.0 bytes) bytes refusal (sym (take-append-drop x.0 bytes)) x.2)
stops_there F bytes stop.OutOfMemory old before new after last st t = tt
stops_there F bytes stop.Spent old before new after last st t = t [] (stands_for open_gate [] [] old before st)

pub feed_stops : {F : Type 0} (fault : FeedFault F) (bytes : List ℕ) (why : Stop) (old : Seen) (before : Tally) (new : Seen) (after : Tally) (last : Finding) → fault ≡ feed_fault.Reader why
    → StandsIn open_gate [] [] old before → FeedTells open_gate bytes (Err fault) old before new after → Walks bytes last (Err why)
feed_stops {F = F} fault bytes why old before new after last is st t =
    stops_there F bytes why old before new after last st (subst (λ f. FeedTells open_gate bytes (Err f) old before new after) is t)
