-- What the steps of the code do to the state of the machine.
use Rattle.std.specs.Prelude.{◌≡◌, ◌<◌, suc, Bool, true, false, List, ◌∷◌, length}
use Rattle.jser_reading.specs.Goals.{Part, parts_goal, State, settle}
use Rattle.jser_reader.specs.declared.frame.Frame.{Frame}
use Rattle.jser_reader.specs.Stacks.{tail_of, HasNoField}
use Rattle.jser_reader.specs.Frames.{frame_goals}
use Rattle.jser_reader.specs.Readers.{Seen, moment_of, goals_of, Ready}

-- the machine is as it was, but for what comes next
pub record Kept (old new : Seen) : Type 0 where
  pub table : new.table ≡ old.table
  pub layers : new.layers ≡ old.layers
  pub refs : new.refs ≡ old.refs

-- an object's parts come next, with these frames below
unfoldable pub before_parts : Seen → List Frame → List Part → State
before_parts r fs parts = settle (moment_of r) (parts_goal (suc (length fs)) parts ∷ frame_goals r.table.chains r.layers fs)

-- a part comes next; or there is none, and nothing was done
abbrev pub PartCases : Bool → Seen → Seen → List Part → Type 0
PartCases true old new parts = Ready new (before_parts old (tail_of old.frames) parts) × Kept old new
PartCases false old new parts =
    (before_parts old (tail_of old.frames) parts ≡ settle (moment_of old) (frame_goals old.table.chains old.layers (tail_of old.frames)))
    × (new ≡ old)

unfoldable pub PartGives : Bool → Seen → Seen → List Part → Type 0
PartGives b old new parts = PartCases b old new parts

-- A value has ended: what the frames stand for comes next
unfoldable pub after_value : Seen → State
after_value r = settle (moment_of r) (goals_of r)

-- what is on top has a next part, which comes next; or it is taken off
abbrev pub GoCases : Bool → Seen → Seen → Type 0
GoCases true old new = Ready new (after_value old) × Kept old new
GoCases false old new = (after_value new ≡ after_value old) × Kept old new × (length new.frames < length old.frames)

unfoldable pub GoesOn : Bool → Seen → Seen → Type 0
GoesOn b old new = GoCases b old new

-- the next raw value or value of what is on top comes next; or none is left
abbrev pub FieldCases : Bool → Seen → Seen → Type 0
FieldCases true old new = GoesOn true old new
FieldCases false old new = (new ≡ old) × HasNoField old.frames

unfoldable pub FieldGoesOn : Bool → Seen → Seen → Type 0
FieldGoesOn b old new = FieldCases b old new
