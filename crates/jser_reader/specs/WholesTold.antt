-- What a reader says of a value that it lends at once: the same as if its items were lent one after another, and which
-- handles are assigned between them.
use Rattle.std.specs.Prelude.{◌≡◌, ℕ, suc, ◌+◌, ◌≤◌, false, List, [], length, take, drop, Some, None, Ok}
use Rattle.jser_grammar.specs.Wire.{TC_REFERENCE, TC_STRING}
use Rattle.jser_reading.specs.Labels.{Label, Piece}
use Rattle.jser_reading.specs.ComesNext.{ComesNext}
use Rattle.jser_verdict.specs.Gates.{Gate}
use Rattle.jser_reader.specs.declared.machine.flow.Flow.{Flow}
use Rattle.jser_reader.specs.declared.machine.flow.Flow.TheVariants as flow
use Rattle.jser_reader.specs.declared.item.Item.TheVariants as item
use Rattle.jser_reader.specs.declared.item.Step.TheVariants as step
use Rattle.jser_reader.specs.declared.item.Whole.{Whole}
use Rattle.jser_reader.specs.declared.item.Whole.TheVariants as whole
use Rattle.jser_reader.specs.declared.reader.lent.Lent.{Lent}
use Rattle.jser_reader.specs.declared.reader.lent.Lent.TheVariants as lent
use Rattle.jser_reader.specs.declared.tally.Tally.{Tally}
use Rattle.jser_reader.specs.Bounds.{AreAssigned}
use Rattle.jser_reader.specs.Items.{items_at, text_items}
use Rattle.jser_reader.specs.ItemsTold.{StandsIn, TokenEnds, TellsItems}
use Rattle.jser_reader.specs.Passes.{PassTells, Passes}
use Rattle.jser_reader.specs.Readers.{Seen}

-- a reference: its tag, and then its handle
pub record TellsReference (gate : Gate) (given : List ℕ) (handle : ℕ) (old : Seen) (before : Tally) (new : Seen) (after : Tally) : Type 0 where
  pub within : 5 ≤ length given
  pub between : Seen
  pub tag : TellsItems gate given (Ok (step.Item (item.Tag TC_REFERENCE) 1)) old before between after
  pub assigned : AreAssigned gate (length old.table.entries) between after
  pub number : TellsItems gate (drop 1 given) (Ok (step.Item (item.Handle handle) 4)) between after new after
  pub tells : PassTells gate given (Some 5) old before new after

-- the next token is a text, which ends with the last of these bytes; they are all its bytes after its length
pub record TextEnds (gate : Gate) (front : List Piece) (cut given text : List ℕ) (r : Seen) (tally : Tally) : Type 0 where
  pub none : cut ≡ []
  pub label : Label
  pub comes : ComesNext front label
  pub is_text : items_at label.position ≡ text_items false
  pub bytes : text ≡ drop 2 (take (2 + length text) given)
  pub ends : TokenEnds gate front label (take (2 + length text) given) r tally

unfoldable pub TellsText : Gate → (given text : List ℕ) → Seen → Tally → Seen → Tally → Type 0
TellsText gate given text old before new after =
    (front : List Piece) (cut : List ℕ) → StandsIn gate front cut old before → TextEnds gate front cut given text new after

-- a string: its tag, with which its handle is assigned, and then its length with its text
pub record TellsString (gate : Gate) (given text : List ℕ) (old : Seen) (before : Tally) (new : Seen) (after : Tally) : Type 0 where
  pub within : 3 + length text ≤ length given
  pub between : Seen
  pub tag : TellsItems gate given (Ok (step.Item (item.Tag TC_STRING) 1)) old before between after
  pub assigned : AreAssigned gate (suc (length old.table.entries)) between after
  pub body : TellsText gate (drop 1 given) text between after new after
  pub tells : PassTells gate given (Some (length text + 3)) old before new after

-- the beginning of what has a class, which is a reference: its tag, the tag of the reference, and its handle
pub record TellsOwner (gate : Gate) (given : List ℕ) (tag class : ℕ) (old : Seen) (before : Tally) (new : Seen) (after : Tally) : Type 0 where
  pub within : 6 ≤ length given
  pub first : Seen
  pub second : Seen
  pub own : TellsItems gate given (Ok (step.Item (item.Tag tag) 1)) old before first after
  pub assigned : AreAssigned gate (length old.table.entries) first after
  pub place : TellsItems gate (drop 1 given) (Ok (step.Item (item.Tag TC_REFERENCE) 1)) first after second after
  pub assigned_then : AreAssigned gate (length old.table.entries) second after
  pub number : TellsItems gate (drop 1 (drop 1 given)) (Ok (step.Item (item.Handle class) 4)) second after new after
  pub tells : PassTells gate given (Some 6) old before new after

abbrev pub TellsWhole : Gate → (given : List ℕ) → Whole → Seen → Tally → Seen → Tally → Type 0
TellsWhole gate given (whole.Reference handle) old before new after = TellsReference gate given handle old before new after
TellsWhole gate given (whole.String text) old before new after = TellsString gate given text.now old before new after
TellsWhole gate given (whole.Owner tag class) old before new after = TellsOwner gate given tag class old before new after

-- a value was lent; or nothing was done; or the machine has stopped, which says later why
abbrev pub LentCases : Gate → (given : List ℕ) → Lent → Seen → Tally → Seen → Tally → Type 0
LentCases gate given (lent.Value w) old before new after = TellsWhole gate given w old before new after
LentCases gate given lent.Nothing old before new after = (new ≡ old) × (after ≡ before)
LentCases gate given lent.Stopped old before new after = Passes gate given None old before new after

abbrev pub OwnerCases : Gate → (given : List ℕ) → (tag class : ℕ) → Flow → Seen → Tally → Seen → Tally → Type 0
OwnerCases gate given tag class flow.On old before new after = TellsOwner gate given tag class old before new after
OwnerCases gate given tag class flow.Stopped old before new after = Passes gate given None old before new after
