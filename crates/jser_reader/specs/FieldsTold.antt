-- What a reader says of a declared field that it lends at once: the same as if its items were lent one after another, and
-- that no handle is assigned between them.
use Rattle.std.specs.Prelude.{◌≡◌, ◌+◌, ◌≤◌, ℕ, List, length, drop, Option, Some, None, Ok}
use Rattle.jser_grammar.specs.Wire.{TC_REFERENCE}
use Rattle.jser_verdict.specs.Gates.{Gate}
use Rattle.jser_reader.specs.declared.item.Field.{Field}
use Rattle.jser_reader.specs.declared.item.Item.TheVariants as item
use Rattle.jser_reader.specs.declared.item.Step.TheVariants as step
use Rattle.jser_reader.specs.declared.tally.Tally.{Tally}
use Rattle.jser_reader.specs.Bounds.{AreAssigned}
use Rattle.jser_reader.specs.ItemsTold.{TellsItems}
use Rattle.jser_reader.specs.Members.{TakesMember}
use Rattle.jser_reader.specs.Readers.{Seen}
use Rattle.jser_reader.specs.Visits.{field_size}
use Rattle.jser_reader.specs.WholesTold.{TellsText}

-- a type that is a reference: its tag, and then its handle
pub record TellsReferenceType (gate : Gate) (given : List ℕ) (handle handles : ℕ) (old new : Seen) (tally : Tally) : Type 0 where
  pub within : 5 ≤ length given
  pub assigned : AreAssigned gate handles old tally
  pub between : Seen
  pub tag : TellsItems gate given (Ok (step.Item (item.Tag TC_REFERENCE) 1)) old tally between tally
  pub assigned_then : AreAssigned gate handles between tally
  pub number : TellsItems gate (drop 1 given) (Ok (step.Item (item.Handle handle) 4)) between tally new tally

-- the type, or none is told
abbrev pub TypeCases : Gate → (given : List ℕ) → Option ℕ → (handles : ℕ) → (old new : Seen) → Tally → Type 0
TypeCases gate given (Some handle) handles old new tally = TellsReferenceType gate given handle handles old new tally
TypeCases gate given None handles old new tally = new ≡ old

-- a declared field: its type code, its name, and its type
pub record TellsField (gate : Gate) (given : List ℕ) (field : Field) (old new : Seen) (tally : Tally) : Type 0 where
  pub coded : Seen
  pub named : Seen
  pub code : TellsItems gate given (Ok (step.Item (item.TypeCode field.code) 1)) old tally coded tally
  pub assigned : AreAssigned gate (length old.table.entries) coded tally
  pub name : TellsText gate (drop 1 given) field.name.now coded tally named tally
  pub type : TypeCases gate (drop (length field.name.now + 3) given) field.type_handle (length old.table.entries) named new tally

-- a declared field of this piece was taken
pub record TakesField (piece : List ℕ) (field : Field) (old new : Seen) : Type 0 where
  pub takes : TakesMember piece (field_size field) old new
  pub told : (gate : Gate) (tally : Tally) → TellsField gate piece field old new tally

-- one that was whole in the piece was taken; or nothing was done
abbrev pub FieldCases : (piece : List ℕ) → Option Field → Seen → Seen → Type 0
FieldCases piece (Some field) old new = TakesField piece field old new
FieldCases piece None old new = new ≡ old
