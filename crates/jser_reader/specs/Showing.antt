-- What a reader takes in one step and shows a visitor at once, and by which items it went on.
use Rattle.std.specs.Prelude.{◌≡◌, ℕ, ◌<◌, ◌≤◌, List, [], ◌∷◌, ◌++◌, length, take, Some, Result, Ok, Err}
use Rattle.jser_verdict.specs.Gates.{Gate}
use Rattle.jser_reader.specs.declared.item.Step.TheVariants as step
use Rattle.jser_reader.specs.declared.reader.feed.Showing.{Showing}
use Rattle.jser_reader.specs.declared.reader.feed.Showing.TheVariants as showing
use Rattle.jser_reader.specs.declared.refusal.Stop.{Stop}
use Rattle.jser_reader.specs.declared.tally.Tally.{Tally}
use Rattle.jser_reader.specs.declared.visit.Whereabouts.{Whereabouts}
use Rattle.jser_reader.specs.Feeds.{all_after}
use Rattle.jser_reader.specs.ItemsTold.{StandsIn, TellsItems}
use Rattle.jser_reader.specs.Passes.{PassTells}
use Rattle.jser_reader.specs.Readers.{Seen}
use Rattle.jser_reader.specs.ReaderStates.{NextTells}
use Rattle.jser_reader.specs.Visits.{Spot, bytes_at, Shown, AreShown, whole_items, whole_size, field_items, field_size}

-- items further
pub record AllFurther (gate : Gate) (all : ℕ) (at : Spot) (items : List Shown) (taken : List ℕ) (r : Seen) (tally : Tally) : Type 0 where
  pub to : Spot
  pub next : AreShown gate all items at to
  pub bytes : bytes_at to ≡ bytes_at at ++ taken
  pub reads : StandsIn gate to.front to.cut r tally

-- what is told of a step that is taken: the handles before it, and the bytes up to its end
abbrev pub here : (old new : Seen) → Whereabouts
here old new = record { handles = length old.table.entries; end = new.meter.at }

-- So many bytes of the piece were taken, and these items are shown of them.
pub record StepsOn (gate : Gate) (given : List ℕ) (items : List Shown) (size : ℕ) (old : Seen) (before : Tally) (new : Seen) (after : Tally) : Type 0 where
  pub tells : PassTells gate given (Some size) old before new after
  pub shows : (at : Spot) → StandsIn gate at.front at.cut old before → AllFurther gate (all_after at given) at items (take size given) new after

-- what was taken is shown; or more bytes are wanted; or what comes next is refused
abbrev pub ShowingCases : Gate → (given : List ℕ) → Result Showing Stop → Seen → Tally → Seen → Tally → Type 0
ShowingCases gate given (Ok (showing.Item lent used)) old before new after =
    StepsOn gate given (record { lent = lent; whereabouts = here old new } ∷ []) used old before new after
ShowingCases gate given (Ok (showing.Whole w)) old before new after = StepsOn gate given (whole_items w (here old new)) (whole_size w) old before new after
ShowingCases gate given (Ok (showing.Field f)) old before new after = StepsOn gate given (field_items f (here old new)) (field_size f) old before new after
ShowingCases gate given (Ok showing.More) old before new after =
    NextTells gate given (Ok step.More) old before new after × TellsItems gate given (Ok step.More) old before new after
ShowingCases gate given (Err why) old before new after = NextTells gate given (Err why) old before new after

-- it is some of the piece
abbrev pub ShowingSome : (given : List ℕ) → Showing → Type 0
ShowingSome given (showing.Item lent used) = (0 < used) × (used ≤ length given)
ShowingSome given (showing.Whole w) = (0 < whole_size w) × (whole_size w ≤ length given)
ShowingSome given (showing.Field f) = (0 < field_size f) × (field_size f ≤ length given)
ShowingSome given showing.More = Unit {0}
