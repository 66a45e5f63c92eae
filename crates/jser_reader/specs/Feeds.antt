-- What `feed` answers of a piece, and what it shows of it.
use Rattle.std.specs.Prelude.{◌≡◌, ◌≤◌, ℕ, List, ◌++◌, length, take, Result, Ok, Err}
use Rattle.jser_verdict.specs.Gates.{Gate}
use Rattle.jser_reader.specs.declared.item.Item.{Item}
use Rattle.jser_reader.specs.declared.refusal.Refusal.{Refusal}
use Rattle.jser_reader.specs.declared.refusal.Stop.TheVariants as stop
use Rattle.jser_reader.specs.declared.tally.Tally.{Tally}
use Rattle.jser_reader.specs.declared.visit.FeedFault.{FeedFault}
use Rattle.jser_reader.specs.declared.visit.FeedFault.TheVariants as feed_fault
use Rattle.jser_reader.specs.ItemsTold.{StandsIn}
use Rattle.jser_reader.specs.Readers.{Seen}
use Rattle.jser_reader.specs.ReaderStates.{StandsFor, SkipCases, HasRefused, IsSpent}
use Rattle.jser_reader.specs.declared.visit.Whereabouts.{Whereabouts}
use Rattle.jser_reader.specs.Visits.{Spot, bytes_at, Visited, IsShown}

-- The reader answers what `skip` does; or the visitor has stopped, and the reader stands for the bytes up to those of the item or
-- value that it was shown.
abbrev pub FeedCases : {F : Type 0} → Gate → (bytes piece : List ℕ) → Result (Unit {0}) (FeedFault F) → Seen → Tally → Type 0
FeedCases gate bytes piece (Ok _) r tally = StandsFor gate (bytes ++ piece) r tally
FeedCases gate bytes piece (Err (feed_fault.Reader why)) r tally = SkipCases gate bytes piece (Err why) r tally
FeedCases gate bytes piece (Err (feed_fault.Visitor f)) r tally = (used : ℕ) × (used ≤ length piece) × StandsFor gate (bytes ++ take used piece) r tally

unfoldable pub FeedTells : {F : Type 0} → Gate → (piece : List ℕ) → Result (Unit {0}) (FeedFault F) → Seen → Tally → Seen → Tally → Type 0
FeedTells gate piece result old before new after =
    (bytes : List ℕ) → StandsFor gate bytes old before → FeedCases gate bytes piece result new after

-- all bytes that are taken after a piece
abbrev pub all_after : Spot → (piece : List ℕ) → ℕ
all_after from piece = length (bytes_at from ++ piece)

-- the visitor took the items of this piece, in a call that takes `all` bytes at most
pub record VisitedAll {S : Type 0} (takes : Item → Whereabouts → S → S → Type 0) (gate : Gate) (all : ℕ) (from : Spot) (piece : List ℕ) (r : Seen) (tally : Tally) (x y : S) : Type 0 where
  pub to : Spot
  pub bytes : bytes_at to ≡ bytes_at from ++ piece
  pub reads : StandsIn gate to.front to.cut r tally
  pub visited : Visited takes gate all from x to y

-- the visitor took the items of first bytes of the piece, where a reader stood
pub record VisitedFront {S : Type 0} (takes : Item → Whereabouts → S → S → Type 0) (gate : Gate) (all : ℕ) (from : Spot) (piece : List ℕ) (x y : S) : Type 0 where
  pub to : Spot
  pub gone : List ℕ
  pub rest : List ℕ
  pub split : piece ≡ gone ++ rest
  pub bytes : bytes_at to ≡ bytes_at from ++ gone
  pub reader : Seen
  pub tally : Tally
  pub reads : StandsIn gate to.front to.cut reader tally
  pub visited : Visited takes gate all from x to y

-- the visitor took items of the piece, and stopped at the next one, which is in the piece
pub record VisitedUpTo {S F : Type 0} (takes : Item → Whereabouts → S → S → Type 0) (stops : Item → F → S → S → Type 0) (gate : Gate) (all : ℕ) (from : Spot) (piece : List ℕ) (fault : F) (x y : S) : Type 0 where
  pub at : Spot
  pub last : S
  pub visited : Visited takes gate all from x at last
  pub lent : Item
  pub whereabouts : Whereabouts
  pub to : Spot
  pub next : IsShown gate all at lent whereabouts to
  pub rest : List ℕ
  pub split : bytes_at from ++ piece ≡ bytes_at to ++ rest
  pub stopped : stops lent fault last y

abbrev pub VisitCases : {S F : Type 0} (takes : Item → Whereabouts → S → S → Type 0) (stops : Item → F → S → S → Type 0) → Gate → (from : Spot) (piece : List ℕ) → Result (Unit {0}) (FeedFault F)
    → Seen → Tally → (x y : S) → Type 0
VisitCases takes stops gate from piece (Ok _) r tally x y = VisitedAll takes gate (all_after from piece) from piece r tally x y
VisitCases takes stops gate from piece (Err (feed_fault.Reader why)) r tally x y = VisitedFront takes gate (all_after from piece) from piece x y
VisitCases takes stops gate from piece (Err (feed_fault.Visitor f)) r tally x y = VisitedUpTo takes stops gate (all_after from piece) from piece f x y

unfoldable pub FeedVisits : {S F : Type 0} (takes : Item → Whereabouts → S → S → Type 0) (stops : Item → F → S → S → Type 0) → Gate → (piece : List ℕ) → Result (Unit {0}) (FeedFault F)
    → Seen → Tally → Seen → Tally → (x y : S) → Type 0
FeedVisits takes stops gate piece result old before new after x y =
    (from : Spot) → StandsIn gate from.front from.cut old before → VisitCases takes stops gate from piece result new after x y

-- A reader that has refused bytes, or is spent, answers that again and shows nothing.
unfoldable pub FeedStays : {S F : Type 0} → Result (Unit {0}) (FeedFault F) → (old new : Seen) (x y : S) → Type 0
FeedStays result old new x y =
    ((refusal : Refusal) → HasRefused refusal old → (result ≡ Err (feed_fault.Reader (stop.Refused refusal))) × HasRefused refusal new × (y ≡ x))
    × (IsSpent old → (result ≡ Err (feed_fault.Reader stop.Spent)) × IsSpent new × (y ≡ x))
