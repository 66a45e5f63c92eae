-- Where the last item of a piece stands.
use Rattle.std.specs.Prelude.{ℕ, ◌≡◌, List, ◌++◌, length, Option, Some, None}
use Rattle.jser_verdict.specs.Gates.{Gate}
use Rattle.jser_reader.specs.declared.Item.{Item}
use Rattle.jser_reader.specs.declared.Whereabouts.{Whereabouts}
use Rattle.jser_reader.specs.declared.tally.Tally.{Tally}
use Rattle.jser_reader.specs.ItemsTold.{StandsIn}
use Rattle.jser_reader.specs.Readers.{Seen}
use Rattle.jser_reader.specs.Visits.{Spot, bytes_at, IsNext}
use Rattle.uses_reader.specs.Showing.{Items}

-- The last item before a spot: as many handles of the epoch are assigned before its token, and as many bytes are taken up to its end.
pub record LastItem (from : Spot) (found : Whereabouts) (last : Spot) : Type 0 where
  pub before : ℕ
  pub at : Spot
  pub items : Items from before at
  pub lent : Item
  pub to : Spot
  pub next : IsNext at lent to
  pub handles : found.handles ≡ length next.label.moment.table
  pub end : found.end ≡ length (bytes_at to)
  pub no_more : Items to 0 last

-- the last item before a spot stands there, or there is none
abbrev pub LastCases : (from : Spot) → Option Whereabouts → (last : Spot) → Type 0
LastCases from None last = Items from 0 last
LastCases from (Some found) last = LastItem from found last

-- the last item of the piece stands there, or the piece has none
pub record HasLast (from : Spot) (piece : List ℕ) (found : Option Whereabouts) : Type 0 where
  pub last : Spot
  pub bytes : bytes_at last ≡ bytes_at from ++ piece
  pub stands : LastCases from found last

unfoldable pub TellsLast : Gate → (piece : List ℕ) → Seen → Tally → Option Whereabouts → Type 0
TellsLast gate piece r tally found = (from : Spot) → StandsIn gate from.front from.cut r tally → HasLast from piece found
