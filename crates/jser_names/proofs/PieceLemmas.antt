-- A piece, with the names collected.
use Rattle.std.proofs.Common.{◌≡◌, ℕ, List, ◌++◌, Ok, Err, sym, ◌∙◌, ap, subst}
use Rattle.jser_reader.specs.declared.FeedFault.{FeedFault}
use Rattle.jser_reader.specs.declared.FeedFault.TheVariants as feed_fault
use Rattle.jser_reader.specs.declared.Item.{Item}
use Rattle.jser_reader.specs.declared.Stop.{Stop}
use Rattle.jser_reader.specs.declared.Stop.TheVariants as stop
use Rattle.jser_reader.specs.declared.tally.Tally.{Tally}
use Rattle.jser_reader.specs.Feeds.{FeedCases, FeedTells, FeedVisits, all_after}
use Rattle.jser_reader.specs.Gates.{open_gate}
use Rattle.jser_reader.specs.Readers.{Seen}
use Rattle.jser_reader.specs.ReaderStates.{StandsFor, SkipCases}
use Rattle.jser_reader.specs.Visits.{Spot}
use Rattle.jser_reader.proofs.VisitLemmas.{visited_keeps}
use Rattle.jser_names.specs.Standing.{Names, Takes, Stands}
use Rattle.jser_names.specs.Takers.{TookCases}
use Rattle.jser_names.proofs.StepLemmas.{StandsAt, takes_item, takes_short}

pub stands_for : (taken : List ℕ) (r : Seen) (tally : Tally) (x : Names) → Stands taken r tally x → StandsFor open_gate taken r tally
unfolding StandsFor
stands_for taken r tally x h = subst (λ bytes. StandsFor open_gate bytes r tally) (sym h.split) (h.reads.counted, h.reads.within)

pub fed_all : {F : Type 0} (stops : Item → F → Names → Names → Type 0) (taken piece : List ℕ) (old : Seen) (before : Tally) (x : Names) (new : Seen) (after : Tally) (y : Names)
    → FeedVisits (λ lent w a b. Takes lent a b) stops open_gate piece (Ok tt) old before new after x y → Stands taken old before x → Stands (taken ++ piece) new after y
unfolding FeedVisits
fed_all stops taken piece old before x new after y v st =
    let from : Spot = record { front = st.front; cut = st.cut } in
    let all = v from st.reads in
    let at = visited_keeps (λ lent w a b. Takes lent a b) open_gate (all_after from piece) (λ at z. StandsAt at z) (λ at to lent w y z h shown did. takes_item at to lent y z h shown.next did) (λ at to y h short end. takes_short at to y h short) from x (st.at, st.measures) all.visited in
    record {
      front = all.to.front;
      cut = all.to.cut;
      split = ap (λ xs. xs ++ piece) st.split ∙ sym all.bytes;
      reads = all.reads;
      at = at.0;
      measures = at.1;
    }

pub fed_stops : {F : Type 0} (fault : FeedFault F) (taken piece : List ℕ) (why : Stop) (old : Seen) (before : Tally) (x : Names) (new : Seen) (after : Tally) (y : Names)
    → fault ≡ feed_fault.Reader why → FeedTells open_gate piece (Err fault) old before new after → Stands taken old before x
    → TookCases (λ bytes. Stands bytes new after y) taken piece (Err why)
unfolding FeedTells
fed_stops {F = F} fault taken piece why old before x new after y is t st =
    cases why (subst (λ (f : FeedFault F). FeedCases open_gate taken piece (Err f) new after) is (t taken (stands_for taken old before x st)))
  where
    cases : (why : Stop) → SkipCases open_gate taken piece (Err why) new after → TookCases (λ bytes. Stands bytes new after y) taken piece (Err why)
    cases (stop.Refused refusal) r = (r.0, r.1, r.2)
    cases stop.OutOfMemory r = tt
    cases stop.Spent r = r
