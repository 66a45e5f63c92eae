-- Frames, and the goals of the reading machine that they stand for. Nothing but the frames is kept: a frame's depth is
-- its place in the stack, and what is still to come of an object is told by the number of the section that is being
-- read. `C` are the chains of all classes in the order in which they were closed, and `L` the layers of the
-- descriptors that are open, the innermost first.
use Rattle.std.specs.Prelude.{ℕ, suc, List, [], ◌∷◌, length, drop, Some, None}
use Rattle.jser_table.specs.declared.layer.Layer.{Layer}
use Rattle.jser_table.specs.Chains.{has_write_method}
use Rattle.jser_table.specs.Codes.{primitive_codes}
use Rattle.jser_table.specs.Sections.{no_layer, layer_of, under}
use Rattle.jser_reading.specs.Roles.{ChainOwner, object_owner, array_owner, enum_owner, class_owner, own_class, superclass, is_strict_above}
use Rattle.jser_reading.specs.Roles.{Owner as GoalOwner, Role as GoalRole}
use Rattle.jser_reading.specs.Goals.{Part, prim_parts, value_parts, annotation_if, section_parts, Goal, top_goal, annotation_goal, parts_goal, made_goal, superclass_goal, close_goal}
use Rattle.jser_reader.specs.declared.frame.Frame.{Frame}
use Rattle.jser_reader.specs.declared.frame.Frame.TheVariants as frame
use Rattle.jser_reader.specs.declared.frame.Owner.{Owner}
use Rattle.jser_reader.specs.declared.frame.Owner.TheVariants as owner
use Rattle.jser_reader.specs.declared.frame.Role.{Role}
use Rattle.jser_reader.specs.declared.frame.Role.TheVariants as role

-- owners and roles

abbrev pub goal_owner : Owner → GoalOwner
goal_owner owner.Object = object_owner
goal_owner owner.Array = array_owner
goal_owner owner.EnumConst = enum_owner
goal_owner owner.ClassObject = class_owner

-- the owner at the end of a chain: a superclass has that of the descriptor round it
abbrev pub owner_in : ChainOwner → Role → ChainOwner
owner_in outer role.Value = None
owner_in outer (role.ClassOf o) = Some (goal_owner o)
owner_in outer (role.Superclass strict) = outer

abbrev pub owner_at : ChainOwner → Frame → ChainOwner
owner_at outer (frame.Elements left) = None
owner_at outer (frame.Fields last section pos prims values) = None
owner_at outer (frame.Notes last section) = None
owner_at outer frame.ExternalNotes = None
owner_at outer (frame.Descriptor number role) = owner_in outer role

abbrev pub chain_owner : List Frame → ChainOwner
chain_owner [] = None
chain_owner (f ∷ fs) = owner_at (chain_owner fs) f

abbrev pub goal_role : ChainOwner → Role → GoalRole
goal_role outer role.Value = own_class None
goal_role outer (role.ClassOf o) = own_class (Some (goal_owner o))
goal_role outer (role.Superclass strict) = superclass outer strict

-- the innermost open layer, and the others
abbrev pub head_layer : List Layer → Layer
head_layer [] = no_layer
head_layer (l ∷ ls) = l

abbrev pub tail_layers : List Layer → List Layer
tail_layers [] = []
tail_layers (l ∷ ls) = ls

-- what is still to come of a section: raw values from `pos` on, so many values, and what comes after its fields
abbrev pub rest_of_section : ℕ → ℕ → Layer → List Layer → List Part
rest_of_section pos values layer below =
    prim_parts (drop pos (primitive_codes layer.codes))
    (value_parts values (annotation_if (has_write_method layer.flags) (section_parts below)))

-- the parts that are still to come, after the one that is being read
abbrev pub parts_of : List (List Layer) → Frame → List Part
parts_of C (frame.Elements left) = value_parts left []
parts_of C (frame.Fields last section pos prims values) =
    rest_of_section pos values (layer_of C section) (under C last section)
parts_of C (frame.Notes last section) = section_parts (under C last section)
parts_of C frame.ExternalNotes = []
parts_of C (frame.Descriptor number role) = []

-- What comes after the superclass place of a descriptor: nothing of its own, where it stands as a value; the owner of
-- the class; or the descriptor round it gets its chain, of which this one is the parent.
abbrev pub after_class : Role → (d number : ℕ) → (goals : List Goal) → (above : ℕ → List Goal) → List Goal
after_class role.Value d number goals above = goals
after_class (role.ClassOf o) d number goals above = made_goal (goal_owner o) d number ∷ goals
after_class (role.Superclass strict) d number goals above = above number

-- The goals of a stack: those where what is on top goes on, and those where a superclass of what is on top has been
-- read, by the number of that superclass.
pub record StackGoals : Type 0 where
  pub inside : List Goal
  pub above : ℕ → List Goal

-- no superclass is read there: what is on top goes on
abbrev pub alone : List Goal → StackGoals
alone goals = record { inside = goals; above = λ parent. goals }

abbrev pub part_goals : Frame → ℕ → List Part → List Goal → List Goal
part_goals (frame.Elements left) d parts goals = parts_goal d parts ∷ goals
part_goals (frame.Fields last section pos prims values) d parts goals = parts_goal d parts ∷ goals
part_goals (frame.Notes last section) d parts goals = annotation_goal d ∷ parts_goal d parts ∷ goals
part_goals frame.ExternalNotes d parts goals = annotation_goal d ∷ parts_goal d parts ∷ goals
part_goals (frame.Descriptor number role) d parts goals = goals

-- the superclass place of the descriptor on top
abbrev pub superclass_of : (d number : ℕ) → ChainOwner → Role → Layer → List Goal → List Goal
superclass_of d number outer role layer goals =
    superclass_goal (owner_in outer role) (is_strict_above (goal_role outer role) layer.flags) (suc d) number layer ∷ goals

abbrev pub with_frame : List (List Layer) → List Layer → Frame → ℕ → ChainOwner → StackGoals → StackGoals
with_frame C L (frame.Descriptor number role) d owner outer =
    let goals = after_class role d number outer.inside outer.above in
    record {
      inside = annotation_goal d ∷ superclass_of d number owner role (head_layer L) goals;
      above = λ parent. close_goal number parent (head_layer L) ∷ goals;
    }
with_frame C L (frame.Elements left) d owner outer = alone (part_goals (frame.Elements left) d (parts_of C (frame.Elements left)) outer.inside)
with_frame C L (frame.Fields last section pos prims values) d owner outer =
    alone (part_goals (frame.Fields last section pos prims values) d (parts_of C (frame.Fields last section pos prims values)) outer.inside)
with_frame C L (frame.Notes last section) d owner outer = alone (part_goals (frame.Notes last section) d (parts_of C (frame.Notes last section)) outer.inside)
with_frame C L frame.ExternalNotes d owner outer = alone (part_goals frame.ExternalNotes d [] outer.inside)

-- a descriptor has a layer of its own
abbrev pub layers_below : Frame → List Layer → List Layer
layers_below (frame.Descriptor number role) L = tail_layers L
layers_below (frame.Elements left) L = L
layers_below (frame.Fields last section pos prims values) L = L
layers_below (frame.Notes last section) L = L
layers_below frame.ExternalNotes L = L

abbrev pub stack_goals : List (List Layer) → List Layer → List Frame → StackGoals
stack_goals C L [] = alone (top_goal ∷ [])
stack_goals C L (f ∷ fs) = with_frame C L f (suc (length fs)) (chain_owner fs) (stack_goals C (layers_below f L) fs)

-- what is to be read after the value that is being read
abbrev pub frame_goals : List (List Layer) → List Layer → List Frame → List Goal
frame_goals C L frames = (stack_goals C L frames).inside

-- what is to be read after the superclass place of the descriptor with this number, read as this
abbrev pub closed_goals : List (List Layer) → List Layer → List Frame → Role → (number : ℕ) → List Goal
closed_goals C L frames role number =
    after_class role (suc (length frames)) number (stack_goals C L frames).inside (stack_goals C L frames).above
