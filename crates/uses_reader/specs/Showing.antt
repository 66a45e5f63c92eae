-- How many items a visitor was shown.
use Rattle.std.specs.Prelude.{ℕ, suc, ◌≡◌, ◌≤◌, List, ◌++◌, Result, Ok, Err}
use Rattle.jser_verdict.specs.Gates.{Gate}
use Rattle.jser_reader.specs.declared.FeedFault.{FeedFault}
use Rattle.jser_reader.specs.declared.FeedFault.TheVariants as feed_fault
use Rattle.jser_reader.specs.declared.Item.{Item}
use Rattle.jser_reader.specs.declared.tally.Tally.{Tally}
use Rattle.jser_reader.specs.ItemsTold.{StandsIn}
use Rattle.jser_reader.specs.Readers.{Seen}
use Rattle.jser_reader.specs.Visits.{Spot, bytes_at, IsNext, IsShort}
use Rattle.uses_reader.specs.declared.showing.NoMore.{NoMore}

-- from one spot of a stream to another there are so many items
pub data Items (from : Spot) : ℕ → Spot → Type 0 where
  no_items : Items from 0 from
  an_item : {n : ℕ} {at to : Spot} (lent : Item) → Items from n at → IsNext at lent to → Items from (suc n) to
  no_item_yet : {n : ℕ} {at to : Spot} → Items from n at → IsShort at to → Items from n to

-- the items of the piece, of which there are at most so many
pub record Shown (from : Spot) (piece : List ℕ) (most : ℕ) : Type 0 where
  pub count : ℕ
  pub to : Spot
  pub items : Items from count to
  pub few : count ≤ most
  pub bytes : bytes_at to ≡ bytes_at from ++ piece

-- Where all was shown, there were no more items than that; where the visitor stopped, it took as many.
abbrev pub ShownCases : (from : Spot) (piece : List ℕ) (most : ℕ) → Result (Unit {0}) (FeedFault NoMore) → Type 0
ShownCases from piece most (Ok _) = Shown from piece most
ShownCases from piece most (Err (feed_fault.Reader why)) = Unit {0}
ShownCases from piece most (Err (feed_fault.Visitor f)) = (at : Spot) × Items from most at

unfoldable pub ShowsAtMost : Gate → (piece : List ℕ) (most : ℕ) → Result (Unit {0}) (FeedFault NoMore) → Seen → Tally → Type 0
ShowsAtMost gate piece most result r tally = (from : Spot) → StandsIn gate from.front from.cut r tally → ShownCases from piece most result
