-- What a handler does with a token whose bytes have all been counted: it refuses it for the reason that is told, or it
-- goes on to the state to which the token leads, if memory lasts.
use Rattle.std.specs.Prelude.{◌≡◌, ℕ, suc, ◌++◌, Bool, true, false, List, [], ◌∷◌, length, Option, Some, None, nat_le, ◌&&◌}
use Rattle.jser_table.specs.declared.layer.Layer.{Layer}
use Rattle.jser_table.specs.Chains.{is_external, elements_of}
use Rattle.jser_table.specs.Entries.{TableEntry, text_entry, other_entry, pending_entry}
use Rattle.jser_table.specs.Tables.{TableView}
use Rattle.jser_reading.specs.Labels.{StreamToken, tag_token, block_tag_token, end_tag_token, reset_tag_token, Position, Label, Tag, null_tag, reference_tag, class_desc_tag, object_tag, string_tag, array_tag, class_tag, long_string_tag, proxy_desc_tag, enum_tag}
use Rattle.jser_reading.specs.Moments.{Moment, assign, emptied, next_number}
use Rattle.jser_reading.specs.Roles.{object_owner, array_owner, enum_owner, class_owner, own_class}
use Rattle.jser_reading.specs.Goals.{Goal, State, settle, settled, object_parts, parts_goal, class_handle_goal, array_length_goal, text_place_goal, back_handle_goal, block_length_goal, string_goal, class_goal, class_name_goal, interface_count_goal}
use Rattle.jser_reading.specs.Machine.{open_proxy}
use Rattle.jser_verdict.specs.Reasons.{depth_exceeded, refs_exceeded, handle_space}
use Rattle.jser_verdict.specs.Reasons.{Reason as ToldReason}
use Rattle.jser_verdict.specs.Gates.{Gate, pass}
use Rattle.jser_verdict.specs.Verdicts.{told_if}
use Rattle.jser_reader.specs.declared.machine.flow.Flow.{Flow}
use Rattle.jser_reader.specs.declared.machine.flow.Flow.TheVariants as flow
use Rattle.jser_reader.specs.declared.frame.Frame.{Frame}
use Rattle.jser_reader.specs.declared.frame.Owner.{Owner}
use Rattle.jser_reader.specs.declared.frame.Owner.TheVariants as owner
use Rattle.jser_reader.specs.declared.frame.Role.TheVariants as role
use Rattle.jser_reader.specs.declared.frame.Role.{Role}
use Rattle.jser_reader.specs.declared.phase.Phase.{Phase}
use Rattle.jser_reader.specs.declared.phase.Phase.TheVariants as phase
use Rattle.jser_reader.specs.declared.phase.TextFor.{TextFor}
use Rattle.jser_reader.specs.declared.refusal.Reason.{Reason}
use Rattle.jser_reader.specs.declared.refusal.Stop.{Stop}
use Rattle.jser_reader.specs.declared.refusal.Stop.TheVariants as stop
use Rattle.jser_reader.specs.Reasons.{named}
use Rattle.jser_reader.specs.Frames.{goal_owner, chain_owner, goal_role, closed_goals}
use Rattle.jser_reader.specs.Readers.{Seen, Meter, Header, moment_of, depth_of, goals_of, text_goal, text_rest, Ready}
use Rattle.jser_reader.specs.Rules.{is_deep, is_one_too_many, with_limits}

-- the machine stopped for this
pub record StopsWith (why : Stop) (old new : Seen) : Type 0 where
  pub phase : new.phase ≡ phase.Stopped
  pub stop : new.meter.stop ≡ why

abbrev pub refusal : Meter → Reason → Stop
refusal meter reason = stop.Refused (record { from_byte = meter.from; to_byte = meter.at; reason = reason })

-- the next token begins where this one ends
abbrev pub moved : Meter → Meter
moved meter = record { at = meter.at; from = meter.at; limits = meter.limits; stop = meter.stop; cut_phase = meter.cut_phase; kept = meter.kept }

-- this state comes next
pub record Comes (old new : Seen) (s : State) : Type 0 where
  pub ready : Ready new s
  pub meter : new.meter ≡ moved old.meter
  pub max : new.table.max ≡ old.table.max

abbrev pub TellCases : Option ToldReason → State → Flow → Seen → Seen → Type 0
TellCases None s flow.On old new = Comes old new s
TellCases None s flow.Stopped old new = StopsWith stop.OutOfMemory old new
TellCases (Some k) s flow.On old new = ⊥
TellCases (Some k) s flow.Stopped old new = StopsWith (refusal old.meter (named k)) old new

unfoldable pub Tells : Option ToldReason → State → Flow → Seen → Seen → Type 0
Tells k s b old new = TellCases k s b old new

-- what a handler tells that takes no memory
abbrev pub SureCases : Option ToldReason → State → Flow → Seen → Seen → Type 0
SureCases None s flow.On old new = Comes old new s
SureCases None s flow.Stopped old new = ⊥
SureCases (Some k) s flow.On old new = ⊥
SureCases (Some k) s flow.Stopped old new = StopsWith (refusal old.meter (named k)) old new

unfoldable pub TellsSurely : Option ToldReason → State → Flow → Seen → Seen → Type 0
TellsSurely k s b old new = SureCases k s b old new

-- this token comes next; the frames, the table and the counters are as they were
pub record IsNext (phase : Phase) (owner : Owner) (chain : Option ℕ) (header : Header) (text : TextFor) (old new : Seen) : Type 0 where
  pub phase_is : new.phase ≡ phase
  pub frames : new.frames ≡ old.frames
  pub layers : new.layers ≡ old.layers
  pub table : new.table ≡ old.table
  pub refs : new.refs ≡ old.refs
  pub owner_is : new.owner ≡ owner
  pub chain_is : new.elements ≡ chain
  pub header_is : new.header ≡ header
  pub text_is : new.text ≡ text
  pub left : new.left ≡ old.left
  pub meter : new.meter ≡ moved old.meter

-- an entry was added to the table
abbrev pub with_entry : TableView → TableEntry → TableView
with_entry T entry =
    record { entries = T.entries ++ (entry ∷ []); chains = T.chains; numbers = T.numbers ++ (None ∷ []); lines = T.lines; max = T.max }

-- The tag of a value whose place has been counted.
abbrev pub assigns_handle : Tag → Bool
assigns_handle null_tag = false
assigns_handle reference_tag = false
assigns_handle class_desc_tag = false
assigns_handle object_tag = false
assigns_handle string_tag = true
assigns_handle array_tag = false
assigns_handle class_tag = false
assigns_handle long_string_tag = true
assigns_handle proxy_desc_tag = true
assigns_handle enum_tag = false

abbrev pub is_full : Seen → Bool
is_full r = nat_le r.table.max (length r.table.entries)

abbrev pub handle_reason : Seen → Tag → Option ToldReason
handle_reason r tag = told_if (assigns_handle tag && is_full r) handle_space None

abbrev pub begin_counted : ℕ → Moment → Tag → List Goal → State
begin_counted d m null_tag goals = (m, goals)
begin_counted d m reference_tag goals = (m, back_handle_goal d ∷ goals)
begin_counted d m class_desc_tag goals = (m, class_name_goal (own_class None) d ∷ goals)
begin_counted d m proxy_desc_tag goals = open_proxy (own_class None) d m goals
begin_counted d m object_tag goals = (m, class_goal object_owner d ∷ goals)
begin_counted d m string_tag goals = (assign m text_entry, string_goal false d ∷ goals)
begin_counted d m long_string_tag goals = (assign m text_entry, string_goal true d ∷ goals)
begin_counted d m array_tag goals = (m, class_goal array_owner d ∷ goals)
begin_counted d m class_tag goals = (m, class_goal class_owner d ∷ goals)
begin_counted d m enum_tag goals = (m, class_goal enum_owner d ∷ goals)

unfoldable pub begun : Seen → Tag → State
begun r tag = settled (begin_counted (depth_of r) (moment_of r) tag (goals_of r))

-- The tag of a place: it may be too deep, or one too many, or there may be no handle for it.
abbrev pub place_reason : Seen → Tag → Option ToldReason
place_reason r tag = with_limits r (handle_reason r tag)

abbrev pub counted : Seen → Seen
counted r = record { meter = r.meter; phase = r.phase; frames = r.frames; layers = r.layers; table = r.table; refs = suc r.refs; owner = r.owner; elements = r.elements; header = r.header; text = r.text; left = r.left; scan = r.scan; name = r.name }

-- a place was counted; or it is too deep, or one too many
abbrev pub CountCases : Flow → (deep many : Bool) → Seen → Seen → Type 0
CountCases flow.On deep many old new = (new ≡ counted old) × (deep ≡ false) × (many ≡ false)
CountCases flow.Stopped true many old new = StopsWith (refusal old.meter (named depth_exceeded)) old new
CountCases flow.Stopped false true old new = StopsWith (refusal old.meter (named refs_exceeded)) old new
CountCases flow.Stopped false false old new = ⊥

unfoldable pub CountsPlace : Flow → Seen → Seen → Type 0
CountsPlace b old new = CountCases b (is_deep old) (is_one_too_many old) old new

unfoldable pub after_tag : Seen → Tag → State
after_tag r tag = begun (counted r) tag

-- An entry was added; or there is no handle left, or no memory.
abbrev pub added : Seen → TableEntry → Seen
added r entry = record { meter = r.meter; phase = r.phase; frames = r.frames; layers = r.layers; table = with_entry r.table entry; refs = r.refs; owner = r.owner; elements = r.elements; header = r.header; text = r.text; left = r.left; scan = r.scan; name = r.name }

abbrev pub AssignCases : TableEntry → Option ℕ → Bool → Seen → Seen → Type 0
AssignCases entry (Some number) full old new = (number ≡ length old.table.entries) × (full ≡ false) × (new ≡ added old entry)
AssignCases entry None true old new = StopsWith (refusal old.meter (named handle_space)) old new
AssignCases entry None false old new = StopsWith stop.OutOfMemory old new

unfoldable pub Assigns : TableEntry → Option ℕ → Seen → Seen → Type 0
Assigns entry result old new = AssignCases entry result (is_full old) old new

-- where a new string, a new plain descriptor or a new proxy descriptor has begun

unfoldable pub opens_text : Seen → TextFor → (long : Bool) → State
opens_text r text long = (assign (moment_of r) text_entry, text_goal r text long ∷ text_rest r text)

unfoldable pub opens_class : Seen → Role → State
opens_class r role =
    (moment_of r, class_name_goal (goal_role (chain_owner r.frames) role) (depth_of r) ∷ closed_goals r.table.chains r.layers r.frames role (next_number (moment_of r)))

unfoldable pub opens_proxy : Seen → Role → State
opens_proxy r role = (
  assign (moment_of r) pending_entry,
  interface_count_goal (goal_role (chain_owner r.frames) role) (depth_of r) (next_number (moment_of r))
      ∷ closed_goals r.table.chains r.layers r.frames role (next_number (moment_of r)),
)

-- The gate as the tests of all tokens but names see it: its limits alone.
abbrev pub plain_gate : Seen → Gate
plain_gate r = record { bytes = r.meter.limits.bytes; depth = r.meter.limits.depth; refs = r.meter.limits.refs; array = r.meter.limits.array; handles = r.table.max; answer = λ name. pass }

abbrev pub label_at : Position → ℕ → Seen → Label
label_at position depth r = record { position = position; depth = depth; moment = moment_of r }

-- the state after a tag at the top, in an annotation or in a value place

abbrev pub tail_goals : List Goal → List Goal
tail_goals [] = []
tail_goals (g ∷ gs) = gs

unfoldable pub after_end : Seen → State
after_end r = settle (moment_of r) (tail_goals (goals_of r))

abbrev pub after_block_tag : Seen → (long : Bool) → State
after_block_tag r long = (moment_of r, block_length_goal long (length r.frames) ∷ goals_of r)

abbrev pub after_content : Seen → Option StreamToken → State
after_content r (Some (tag_token tag)) = after_tag r tag
after_content r (Some (block_tag_token long)) = after_block_tag r long
after_content r (Some end_tag_token) = after_end r
after_content r (Some reset_tag_token) = (emptied (moment_of r), goals_of r)
after_content r _ = (moment_of r, [])

-- A class place: its tag, and the class that a handle names.

abbrev pub after_class_tag : Seen → Option StreamToken → State
after_class_tag r (Some (tag_token reference_tag)) = (moment_of r, class_handle_goal (goal_owner r.owner) (depth_of r) ∷ goals_of r)
after_class_tag r (Some (tag_token class_desc_tag)) = opens_class r (role.ClassOf r.owner)
after_class_tag r (Some (tag_token proxy_desc_tag)) = opens_proxy r (role.ClassOf r.owner)
after_class_tag r _ = (moment_of r, [])

-- the data of an object with this chain
unfoldable pub object_state : Seen → List Layer → State
object_state r chain = settle (moment_of r) (parts_goal (depth_of r) (object_parts (is_external chain) chain) ∷ goals_of r)

abbrev pub ObjectCases : Flow → Seen → Seen → State → Type 0
ObjectCases flow.On old new s = Ready new s × (new.meter ≡ old.meter) × (new.table.max ≡ old.table.max)
ObjectCases flow.Stopped old new s = StopsWith stop.OutOfMemory old new

unfoldable pub BeginsObject : List Layer → Flow → Seen → Seen → Type 0
BeginsObject chain b old new = ObjectCases b old new (object_state old chain)

-- a frame was put on the stack, if there was memory
abbrev pub pushed : Seen → Frame → Seen
pushed r f = record { meter = r.meter; phase = r.phase; frames = f ∷ r.frames; layers = r.layers; table = r.table; refs = r.refs; owner = r.owner; elements = r.elements; header = r.header; text = r.text; left = r.left; scan = r.scan; name = r.name }

abbrev pub PushCases : Frame → Flow → Seen → Seen → Type 0
PushCases f flow.On old new = new ≡ pushed old f
PushCases f flow.Stopped old new = StopsWith stop.OutOfMemory old new

unfoldable pub Pushes : Frame → Flow → Seen → Seen → Type 0
Pushes f b old new = PushCases f b old new

-- what comes after the class of this owner, whose chain this is: its handle is assigned
abbrev pub owner_state_at : Owner → Seen → List Layer → State
owner_state_at owner.Object r chain = object_state (added r other_entry) chain
owner_state_at owner.Array r chain = (assign (moment_of r) other_entry, array_length_goal (elements_of chain) (depth_of r) ∷ goals_of r)
owner_state_at owner.EnumConst r chain = (assign (moment_of r) other_entry, text_place_goal (depth_of r) ∷ goals_of r)
owner_state_at owner.ClassObject r chain = settle (assign (moment_of r) other_entry) (goals_of r)

unfoldable pub owner_state : Seen → List Layer → State
owner_state r chain = owner_state_at r.owner r chain
