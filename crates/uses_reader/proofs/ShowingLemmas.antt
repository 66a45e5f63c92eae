-- What a visitor was shown, and what a reader that has stopped shows.
use Rattle.std.proofs.Common.{◌≡◌, ℕ, zero, suc, ◌+◌, List, length, Result, Ok, Err, arith, refl, ◌∙◌, subst}
use denote.Bor.{Bor}
use Rattle.jser_verdict.specs.Gates.{Gate}
use Rattle.jser_reader.specs.declared.FeedFault.{FeedFault}
use Rattle.jser_reader.specs.declared.FeedFault.TheVariants as feed_fault
use Rattle.jser_reader.specs.declared.Item.{Item}
use Rattle.jser_reader.specs.declared.Refusal.{Refusal}
use Rattle.jser_reader.specs.declared.Stop.TheVariants as stop
use Rattle.jser_reader.specs.declared.Whereabouts.{Whereabouts}
use Rattle.jser_reader.specs.declared.Whole.{Whole}
use Rattle.jser_reader.specs.declared.Whole.TheVariants as whole
use Rattle.jser_reader.specs.declared.tally.Tally.{Tally}
use Rattle.jser_reader.specs.Feeds.{FeedVisits, FeedStays, all_after}
use Rattle.jser_reader.specs.Readers.{Seen}
use Rattle.jser_reader.specs.ReaderStates.{HasRefused, IsSpent}
use Rattle.jser_reader.specs.Visits.{Spot, IsNext, IsShort, Visited, TakesAll, part_items, whole_items}
use Rattle.jser_reader.proofs.VisitLemmas.{visited_keeps}
use Rattle.uses_reader.specs.declared.showing.Few.{Few}
use Rattle.uses_reader.specs.declared.showing.NoMore.{NoMore}
use Rattle.uses_reader.specs.Showing.{Items, no_items, an_item, no_item_yet, ShowsAtMost}

pub stays_refused : {S F : Type 0} (result : Result (Unit {0}) (FeedFault F)) (old new : Seen) (x y : S) → FeedStays result old new x y
    → (refusal : Refusal) → HasRefused refusal old → (result ≡ Err (feed_fault.Reader (stop.Refused refusal))) × (y ≡ x)
unfolding FeedStays
stays_refused result old new x y stays refusal h = let s = stays.0 refusal h in (s.0, s.2)

pub stays_spent : {S F : Type 0} (result : Result (Unit {0}) (FeedFault F)) (old new : Seen) (x y : S) → FeedStays result old new x y
    → IsSpent old → (result ≡ Err (feed_fault.Reader stop.Spent)) × (y ≡ x)
unfolding FeedStays
stays_spent result old new x y stays h = let s = stays.1 h in (s.0, s.2)

-- ---- a visitor of which nothing is known

parts_any : {S : Type 0} (text : Bor (List ℕ)) (handles end size : ℕ) (y : S) → TakesAll (λ _ _ _ _. Unit {0}) (part_items text handles end size) y y
parts_any text handles end zero y = refl
parts_any text handles end (suc n) y = (y, tt, refl)

pub takes_any : {S : Type 0} (w : Whole) (at : Whereabouts) (x y : S) → TakesAll (λ _ _ _ _. Unit {0}) (whole_items w at) x y
takes_any (whole.Reference handle) at x y = (y, tt, (y, tt, refl))
takes_any (whole.String text) at x y = (y, tt, (y, tt, parts_any text (at.handles + 1) at.end (length text.now) y))
takes_any (whole.Owner tag class) at x y = (y, tt, (y, tt, (y, tt, refl)))

-- ---- a visitor that takes so many items

-- so many of them were shown, and the others it takes yet
record Took (from : Spot) (most : ℕ) (at : Spot) (few : Few) : Type 0 where
  count : ℕ
  items : Items from count at
  all : count + few.left ≡ most

takes_one : (from : Spot) (most : ℕ) (at to : Spot) (lent : Item) (y z : Few) → Took from most at y → IsNext at lent to → y.left ≡ z.left + 1 → Took from most to z
takes_one from most at to lent y z t n one = record { count = suc t.count; items = an_item lent t.items n; all = let a = t.all in omega arith }

takes_none : (from : Spot) (most : ℕ) (at to : Spot) (y : Few) → Took from most at y → IsShort at to → Took from most to y
takes_none from most at to y t n = record { count = t.count; items = no_item_yet t.items n; all = t.all }

took : (gate : Gate) (all : ℕ) (from : Spot) (most : ℕ) (x : Few) {to : Spot} {y : Few} → x.left ≡ most → Visited (λ _ _ old new. old.left ≡ new.left + 1) gate all from x to y → Took from most to y
took gate all from most x is v =
    visited_keeps (λ _ _ old new. old.left ≡ new.left + 1) gate all (Took from most) (λ at to lent w y z t shown one. takes_one from most at to lent y z t shown.next one) (λ at to y t short end. takes_none from most at to y t short) from x
    (record { count = 0; items = no_items; all = let same : 0 + x.left ≡ x.left = omega arith in same ∙ is }) v

pub shows_at_most : (gate : Gate) (piece : List ℕ) (most : ℕ) (result : Result (Unit {0}) (FeedFault NoMore)) (old new : Seen) (before after : Tally) (x y : Few)
    → x.left ≡ most → FeedVisits (λ _ _ old new. old.left ≡ new.left + 1) (λ _ _ old _. old.left ≡ 0) gate piece result old before new after x y
    → ShowsAtMost gate piece most result old before
unfolding FeedVisits ShowsAtMost
shows_at_most gate piece most (Ok _) old new before after x y is visits = λ from st.
    let v = visits from st in
    let t = took gate (all_after from piece) from most x is v.visited in
    record { count = t.count; to = v.to; items = t.items; few = let a = t.all in omega arith; bytes = v.bytes }
shows_at_most gate piece most (Err (feed_fault.Reader why)) old new before after x y is visits = λ from st. tt
shows_at_most gate piece most (Err (feed_fault.Visitor f)) old new before after x y is visits = λ from st.
    let v = visits from st in
    let t = took gate (all_after from piece) from most x is v.visited in
    let none = v.stopped in
    let all : t.count ≡ most = let a = t.all in omega arith in
    (v.at, subst (λ n. Items from n v.at) all t.items)
