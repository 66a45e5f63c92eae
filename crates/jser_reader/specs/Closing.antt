-- Closing the descriptor on top: it gets its chain, that of its superclass and then its own layer, and what waited for
-- it goes on.
use Rattle.std.specs.Prelude.{◌≡◌, ◌<◌, ℕ, ◌++◌, ◌&&◌, IsTrue, List, [], ◌∷◌, length, slice_get, Option, Some, None, is_some}
use Rattle.std.specs.Option.{ForSome}
use Rattle.jser_table.specs.declared.layer.Layer.{Layer}
use Rattle.jser_table.specs.Entries.{is_closed, closed_entry}
use Rattle.jser_table.specs.Sections.{no_layer}
use Rattle.jser_table.specs.Tables.{parent_chain}
use Rattle.jser_grammar.specs.TableAfter.{close}
use Rattle.jser_reading.specs.Moments.{closing}
use Rattle.jser_reading.specs.Goals.{State, settle}
use Rattle.jser_verdict.specs.Reasons.{Reason, handle_space}
use Rattle.jser_verdict.specs.Verdicts.{told_if}
use Rattle.jser_reader.specs.declared.frame.Frame.{Frame}
use Rattle.jser_reader.specs.declared.frame.Frame.TheVariants as frame
use Rattle.jser_reader.specs.declared.frame.Owner.{Owner}
use Rattle.jser_reader.specs.Stacks.{tail_of}
use Rattle.jser_reader.specs.Frames.{head_layer, tail_layers, chain_owner, stack_goals, closed_goals}
use Rattle.jser_reader.specs.declared.frame.Role.{Role}
use Rattle.jser_reader.specs.declared.machine.supers.Closing.{Closing}
use Rattle.jser_reader.specs.declared.machine.supers.Closing.TheVariants as closing_is
use Rattle.jser_reader.specs.Readers.{Seen, moment_of, top_number}
use Rattle.jser_reader.specs.Steps.{after_value}
use Rattle.jser_reader.specs.Handlers.{Tells, is_full, owner_state_at}

-- the layers without the innermost: a layer with nothing in it stands for none
abbrev pub rest_layers : List Layer → List Layer
rest_layers [] = no_layer ∷ []
rest_layers (l ∷ []) = no_layer ∷ []
rest_layers (l ∷ m ∷ ls) = m ∷ ls

-- the chain that the descriptor on top gets
abbrev pub new_chain : Seen → Option ℕ → List Layer
new_chain r parent = parent_chain r.table.entries parent ++ (head_layer r.layers ∷ [])

-- What comes after the superclass place of the descriptor on top, where its superclass is the entry `parent`, if it has
-- one. (Where there is no descriptor on top no superclass was read, and a value has ended.)
abbrev pub closed_at : Seen → Option ℕ → List Frame → State
closed_at r parent (frame.Descriptor number role ∷ fs) =
    settle (closing (moment_of r) number (new_chain r parent)) (closed_goals r.table.chains (tail_layers r.layers) fs role number)
closed_at r parent [] = after_value r
closed_at r parent (frame.Elements left ∷ fs) = after_value r
closed_at r parent (frame.Fields last section pos prims values ∷ fs) = after_value r
closed_at r parent (frame.Notes last section ∷ fs) = after_value r
closed_at r parent (frame.ExternalNotes ∷ fs) = after_value r

unfoldable pub closed_state : Seen → (parent : Option ℕ) → State
closed_state r parent = closed_at r parent r.frames

-- an owner's handle is assigned there
abbrev pub closing_reason : Seen → Option Reason
closing_reason r = told_if (is_some (chain_owner r.frames) && is_full r) handle_space None

-- the descriptor on top was closed and taken off
pub record Closes (parent : Option ℕ) (old new : Seen) : Type 0 where
  pub entries : new.table.entries ≡ close old.table.entries (top_number old.frames) (parent_chain old.table.entries parent ++ (head_layer old.layers ∷ []))
  pub chains : new.table.chains ≡ old.table.chains ++ ((parent_chain old.table.entries parent ++ (head_layer old.layers ∷ [])) ∷ [])
  pub max : new.table.max ≡ old.table.max
  pub frames : new.frames ≡ tail_of old.frames
  pub layers : new.layers ≡ rest_layers old.layers
  pub refs : new.refs ≡ old.refs
  pub meter : new.meter ≡ old.meter

-- the innermost layer was taken
pub record PopsLayer (old new : Seen) : Type 0 where
  pub layers : new.layers ≡ rest_layers old.layers
  pub table : new.table ≡ old.table
  pub frames : new.frames ≡ old.frames
  pub refs : new.refs ≡ old.refs
  pub meter : new.meter ≡ old.meter

-- what comes after the class of this owner
unfoldable pub made_state : Seen → Owner → List Layer → State
made_state r owner chain = owner_state_at owner r chain

-- A class is closed, said of what the machine stands for: the entry is closed, and the stack below goes on as it would have.
pub record ClosesTop (number : ℕ) (role : Role) (parent : Option ℕ) (old new : Seen) : Type 0 where
  pub goals : stack_goals new.table.chains new.layers new.frames ≡ stack_goals old.table.chains (tail_layers old.layers) (tail_of old.frames)
  pub moment : moment_of new ≡ closing (moment_of old) number (new_chain old parent)
  pub entry : slice_get new.table.entries number ≡ Some (closed_entry (new_chain old parent))
  pub size : length new.table.entries ≡ length old.table.entries
  pub max : new.table.max ≡ old.table.max
  pub frames : new.frames ≡ tail_of old.frames
  pub meter : new.meter ≡ old.meter

-- a descriptor was closed: what waited for it has begun, or it is the superclass of the one that is on top now
abbrev pub ClosingCases : Closing → Option ℕ → Seen → Seen → Type 0
ClosingCases (closing_is.Ended b) parent old new = Tells (closing_reason old) (closed_state old parent) b old new
ClosingCases (closing_is.Superclass n) parent old new =
    (closed_state new (Some n) ≡ closed_state old parent) × (closing_reason new ≡ closing_reason old)
    × (new.meter ≡ old.meter) × IsTrue (is_closed (slice_get new.table.entries n)) × (length new.frames < length old.frames)
    × (new.table.max ≡ old.table.max)

unfoldable pub ClosesOne : Closing → Option ℕ → Seen → Seen → Type 0
ClosesOne c parent old new = ClosingCases c parent old new

-- on the way through the stack: what is left goes where the whole would have gone
pub record ClosingOn (start : Seen) (parent : Option ℕ) (now : Seen) (above : Option ℕ) : Type 0 where
  pub state : closed_state now above ≡ closed_state start parent
  pub reason : closing_reason now ≡ closing_reason start
  pub meter : now.meter ≡ start.meter
  pub max : now.table.max ≡ start.table.max
  pub is_read : ForSome above (λ p. IsTrue (is_closed (slice_get now.table.entries p)))
