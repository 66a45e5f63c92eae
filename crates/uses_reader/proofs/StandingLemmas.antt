-- The last item that a visitor was shown.
use Rattle.std.proofs.Common.{◌≡◌, ℕ, suc, List, Ok, Option, Some, None, sym, subst}
use Rattle.jser_verdict.specs.Gates.{Gate}
use Rattle.jser_reader.specs.declared.Item.{Item}
use Rattle.jser_reader.specs.declared.Whereabouts.{Whereabouts}
use Rattle.jser_reader.specs.declared.tally.Tally.{Tally}
use Rattle.jser_reader.specs.Feeds.{FeedVisits, all_after}
use Rattle.jser_reader.specs.Readers.{Seen}
use Rattle.jser_reader.specs.Visits.{Spot, IsShown, IsShort}
use Rattle.jser_reader.proofs.VisitLemmas.{visited_keeps}
use Rattle.uses_reader.specs.declared.showing.NoMore.{NoMore}
use Rattle.uses_reader.specs.declared.standing.Last.{Last}
use Rattle.uses_reader.specs.Showing.{Items, no_items, an_item, no_item_yet}
use Rattle.uses_reader.specs.Standing.{LastCases, TellsLast}

-- so many items were shown, and this was kept of the last one
record Kept (from at : Spot) (last : Last) : Type 0 where
  count : ℕ
  items : Items from count at
  stands : LastCases from last.found at

abbrev Keeps : Item → Whereabouts → Last → Last → Type 0
Keeps lent at old new = new.found ≡ Some at

keep_one : (gate : Gate) (all : ℕ) (from at to : Spot) (lent : Item) (w : Whereabouts) (y z : Last) → Kept from at y → IsShown gate all at lent w to → Keeps lent w y z → Kept from to z
keep_one gate all from at to lent w y z k n is = record {
  count = suc k.count;
  items = an_item lent k.items n.next;
  stands = subst (λ o. LastCases from o to) (sym is) (record {
    before = k.count;
    at = at;
    items = k.items;
    lent = lent;
    to = to;
    next = n.next;
    handles = sym (n.handles n.next.label n.next.comes);
    end = n.end;
    no_more = no_items;
  });
}

short_of : (from at to : Spot) (found : Option Whereabouts) → LastCases from found at → IsShort at to → LastCases from found to
short_of from at to None none short = no_item_yet none short
short_of from at to (Some w) k short = record {
  before = k.before;
  at = k.at;
  items = k.items;
  lent = k.lent;
  to = k.to;
  next = k.next;
  handles = k.handles;
  end = k.end;
  no_more = no_item_yet k.no_more short;
}

keep_short : (from at to : Spot) (y : Last) → Kept from at y → IsShort at to → Kept from to y
keep_short from at to y k short = record { count = k.count; items = no_item_yet k.items short; stands = short_of from at to y.found k.stands short }

pub tells_last : (gate : Gate) (piece : List ℕ) (old new : Seen) (before after : Tally) (x y : Last) → x.found ≡ None
    → FeedVisits {F = NoMore} Keeps (λ _ _ _ _. Unit {0}) gate piece (Ok tt) old before new after x y → TellsLast gate piece old before y.found
unfolding FeedVisits TellsLast
tells_last gate piece old new before after x y none visits = λ from st.
    let v = visits from st in
    let kept = visited_keeps Keeps gate (all_after from piece) (Kept from) (λ at to lent w y z k n is. keep_one gate (all_after from piece) from at to lent w y z k n is)
    (λ at to y k short end. keep_short from at to y k short) from x
    (record { count = 0; items = no_items; stands = subst (λ o. LastCases from o from) (sym none) no_items }) v.visited in
    record { last = v.to; bytes = v.bytes; stands = kept.stands }
