-- What follows of all that a visitor took.
use Rattle.std.specs.Prelude.{ℕ, ◌≡◌, length}
use Rattle.jser_verdict.specs.Gates.{Gate}
use Rattle.jser_reader.specs.declared.item.Item.{Item}
use Rattle.jser_reader.specs.declared.visit.Whereabouts.{Whereabouts}
use Rattle.jser_reader.specs.Visits.{Spot, bytes_at, IsShown, IsShort, Visited, visited_none, visited_item, visited_short}

-- What each item keeps, and bytes that make none yet, holds at the end.
pub visited_keeps : {S : Type 0} (takes : Item → Whereabouts → S → S → Type 0) (gate : Gate) (all : ℕ) (P : Spot → S → Type 0)
    → ((at to : Spot) (lent : Item) (whereabouts : Whereabouts) (y z : S) → P at y → IsShown gate all at lent whereabouts to → takes lent whereabouts y z → P to z)
    → ((at to : Spot) (y : S) → P at y → IsShort at to → length (bytes_at to) ≡ all → P to y) → (from : Spot) (x : S) {to : Spot} {y : S} → P from x → Visited takes gate all from x to y → P to y
visited_keeps takes gate all P item short from x p visited_none = p
visited_keeps takes gate all P item short from x p (visited_item {at} {to} {y} {z} lent w v n t) =
    item at to lent w y z (visited_keeps takes gate all P item short from x p v) n t
visited_keeps takes gate all P item short from x p (visited_short {at} {to} {y} v n e) = short at to y (visited_keeps takes gate all P item short from x p v) n e
