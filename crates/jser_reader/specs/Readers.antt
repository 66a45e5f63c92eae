-- What a reader keeps, and the settled state of the reading machine for which it stands where a token begins.
use Rattle.std.specs.Prelude.{◌≡◌, ℕ, suc, ◌*◌, ◌<◌, Bool, true, false, List, [], ◌∷◌, length, reverse, Option, None, option_map}
use Rattle.jser_prim.specs.Texts.{Scan}
use Rattle.jser_table.specs.declared.layer.Layer.{Layer}
use Rattle.jser_table.specs.declared.layer.LayerKind.{LayerKind}
use Rattle.jser_table.specs.declared.layer.LayerKind.TheVariants as kind
use Rattle.jser_table.specs.Codes.{PrimCode, size_of}
use Rattle.jser_table.specs.Names.{NameKind, plain_name, array_name}
use Rattle.jser_table.specs.Tables.{TableView}
use Rattle.jser_reading.specs.Roles.{is_strict_above, own_class}
use Rattle.jser_reading.specs.Roles.{Role as GoalRole}
use Rattle.jser_reading.specs.Moments.{Moment, next_number}
use Rattle.jser_reading.specs.Goals.{Part, raw_part, value_part, Goal, header_goal, top_goal, back_handle_goal, text_place_goal, text_handle_goal, field_name_goal, string_goal, block_length_goal, block_goal, array_length_goal, parts_goal, class_goal, class_handle_goal, superclass_goal, superclass_handle_goal, class_name_goal, suid_goal, flags_goal, field_count_goal, fields_goal, interface_count_goal, interfaces_goal, State, settle}
use Rattle.jser_reading.specs.Machine.{type_goals}
use Rattle.jser_reader.specs.declared.frame.Frame.{Frame}
use Rattle.jser_reader.specs.declared.frame.Frame.TheVariants as frame
use Rattle.jser_reader.specs.declared.frame.Owner.{Owner}
use Rattle.jser_reader.specs.declared.frame.Role.{Role}
use Rattle.jser_reader.specs.declared.phase.Phase.{Phase}
use Rattle.jser_reader.specs.declared.phase.Phase.TheVariants as phase
use Rattle.jser_reader.specs.declared.phase.TextFor.{TextFor}
use Rattle.jser_reader.specs.declared.phase.TextFor.TheVariants as text
use Rattle.jser_reader.specs.declared.refusal.Stop.{Stop}
use Rattle.jser_reader.specs.Stacks.{FitsDepth}
use Rattle.jser_reader.specs.Fitting.{HasDescriptor}
use Rattle.jser_reader.specs.Frames.{goal_owner, owner_in, chain_owner, goal_role, head_layer, tail_layers, parts_of, frame_goals, closed_goals}

pub record Limits : Type 0 where
  pub bytes : ℕ
  pub depth : ℕ
  pub refs : ℕ
  pub array : ℕ

-- what frames and goals do not touch: how many bytes were taken, where the open token starts, the limits, why the
-- reader stopped, and a number of which not all bytes have come
pub record Meter : Type 0 where
  pub at : ℕ
  pub from : ℕ
  pub limits : Limits
  pub stop : Stop
  pub cut_phase : Phase
  pub kept : List ℕ

-- the head of the descriptor that is being read, up to its fields
pub record Header : Type 0 where
  pub role : Role
  pub kind : LayerKind
  pub seen : Bool
  pub codes : List ℕ
  pub fields : ℕ
  pub interfaces : ℕ

pub record Seen : Type 0 where
  pub meter : Meter
  pub phase : Phase
  pub frames : List Frame
  pub layers : List Layer
  pub table : TableView
  pub refs : ℕ
  pub owner : Owner
  -- the size of the elements of the array whose length comes next, where they are raw values
  pub elements : Option ℕ
  pub header : Header
  pub text : TextFor
  pub left : ℕ
  pub scan : Scan
  -- the units of the name of a class or an interface that is open
  pub name : List ℕ

abbrev pub moment_of : Seen → Moment
moment_of r = record { table = r.table.entries; places = r.refs }

abbrev pub depth_of : Seen → ℕ
depth_of r = suc (length r.frames)

abbrev pub goals_of : Seen → List Goal
goals_of r = frame_goals r.table.chains r.layers r.frames

-- the kind of a class name that is not malformed, by that of its layer
abbrev pub name_kind_of : LayerKind → NameKind
name_kind_of kind.Proxy = plain_name
name_kind_of kind.Other = plain_name
name_kind_of (kind.Array body) = array_name body

-- the role of the descriptor whose name or suid is being read, and what comes after its superclass place
abbrev pub head_role : Seen → GoalRole
head_role r = goal_role (chain_owner r.frames) r.header.role

abbrev pub header_goals : Seen → (number : ℕ) → List Goal
header_goals r number = closed_goals r.table.chains r.layers r.frames r.header.role number

-- the role and the number of the descriptor on top, and what comes after its superclass place
abbrev pub top_role : List Frame → GoalRole
top_role [] = own_class None
top_role (frame.Descriptor number role ∷ fs) = goal_role (chain_owner fs) role
top_role (frame.Elements left ∷ fs) = own_class None
top_role (frame.Fields last section pos prims values ∷ fs) = own_class None
top_role (frame.Notes last section ∷ fs) = own_class None
top_role (frame.ExternalNotes ∷ fs) = own_class None

abbrev pub top_number : List Frame → ℕ
top_number [] = 0
top_number (frame.Descriptor number role ∷ fs) = number
top_number (frame.Elements left ∷ fs) = 0
top_number (frame.Fields last section pos prims values ∷ fs) = 0
top_number (frame.Notes last section ∷ fs) = 0
top_number (frame.ExternalNotes ∷ fs) = 0

abbrev pub opened_goals : List (List Layer) → List Layer → List Frame → List Goal
opened_goals C L [] = []
opened_goals C L (frame.Descriptor number role ∷ fs) = closed_goals C (tail_layers L) fs role number
opened_goals C L (frame.Elements left ∷ fs) = []
opened_goals C L (frame.Fields last section pos prims values ∷ fs) = []
opened_goals C L (frame.Notes last section ∷ fs) = []
opened_goals C L (frame.ExternalNotes ∷ fs) = []

-- the fields of the descriptor on top that are still to come, and what comes after them
abbrev pub fields_goals : Seen → (count : ℕ) → List Goal
fields_goals r count =
    fields_goal (top_role r.frames) (length r.frames) (top_number r.frames) (name_kind_of r.header.kind) (head_layer r.layers).flags
    r.header.seen (reverse r.header.codes) count
    ∷ opened_goals r.table.chains r.layers r.frames

abbrev pub interfaces_goals : Seen → (count : ℕ) → List Goal
interfaces_goals r count =
    interfaces_goal (top_role r.frames) (length r.frames) (top_number r.frames) count
    ∷ opened_goals r.table.chains r.layers r.frames

-- the other fields of the descriptor on top
abbrev pub flags_state : Seen → State
flags_state r =
    (moment_of r, flags_goal (top_role r.frames) (length r.frames) (top_number r.frames) (name_kind_of r.header.kind) ∷ opened_goals r.table.chains r.layers r.frames)

abbrev pub field_count_state : Seen → (flags : ℕ) → State
field_count_state r flags = (
  moment_of r,
  field_count_goal (top_role r.frames) (length r.frames) (top_number r.frames) (name_kind_of r.header.kind) flags ∷ opened_goals r.table.chains r.layers r.frames,
)

abbrev pub interface_count_state : Seen → State
interface_count_state r =
    (moment_of r, interface_count_goal (top_role r.frames) (length r.frames) (top_number r.frames) ∷ opened_goals r.table.chains r.layers r.frames)

-- the depth of a text, and what comes after it
abbrev pub text_depth : Seen → TextFor → ℕ
text_depth r text.Value = suc (length r.frames)
text_depth r text.FieldType = length r.frames
text_depth r (text.FieldName is_object) = length r.frames
text_depth r text.ClassName = suc (length r.frames)
text_depth r text.InterfaceName = length r.frames

abbrev pub text_rest : Seen → TextFor → List Goal
text_rest r text.Value = goals_of r
text_rest r text.FieldType = fields_goals r r.header.fields
text_rest r (text.FieldName is_object) = type_goals is_object (length r.frames) (fields_goals r r.header.fields)
text_rest r text.ClassName = header_goals r (next_number (moment_of r))
text_rest r text.InterfaceName = opened_goals r.table.chains r.layers r.frames

-- the goal of a text
abbrev pub text_goal : Seen → TextFor → (long : Bool) → Goal
text_goal r text.Value long = string_goal long (suc (length r.frames))
text_goal r text.FieldType long = string_goal long (length r.frames)
text_goal r (text.FieldName is_object) long = field_name_goal (length r.frames)
text_goal r text.ClassName long = class_name_goal (head_role r) (suc (length r.frames))
text_goal r text.InterfaceName long =
    interfaces_goal (top_role r.frames) (length r.frames) (top_number r.frames) r.header.interfaces

-- names are short
abbrev pub IsForm : TextFor → (long : Bool) → Type 0
IsForm text.Value long = Unit {0}
IsForm text.FieldType long = Unit {0}
IsForm (text.FieldName is_object) true = ⊥
IsForm (text.FieldName is_object) false = Unit {0}
IsForm text.ClassName true = ⊥
IsForm text.ClassName false = Unit {0}
IsForm text.InterfaceName true = ⊥
IsForm text.InterfaceName false = Unit {0}

-- the units of a class's name and an interface's are kept, to be judged at its end
abbrev pub is_checked : TextFor → Bool
is_checked text.Value = false
is_checked text.FieldType = false
is_checked (text.FieldName is_object) = false
is_checked text.ClassName = true
is_checked text.InterfaceName = true

-- the texts of a descriptor's fields and interfaces are read while its frame is on top
abbrev pub IsInside : TextFor → List Frame → Type 0
IsInside text.Value frames = Unit {0}
IsInside text.FieldType frames = HasDescriptor frames
IsInside (text.FieldName is_object) frames = HasDescriptor frames
IsInside text.ClassName frames = Unit {0}
IsInside text.InterfaceName frames = HasDescriptor frames

-- the goals at a value, which the frame on top has counted already
abbrev pub value_goals : List (List Layer) → List Layer → List Frame → List Goal
value_goals C L [] = []
value_goals C L (f ∷ fs) = parts_goal (suc (length fs)) (value_part ∷ parts_of C f) ∷ frame_goals C L fs

abbrev pub HasPart : List Frame → Type 0
HasPart [] = ⊥
HasPart (frame.Elements left ∷ fs) = Unit {0}
HasPart (frame.Fields last section pos prims values ∷ fs) = Unit {0}
HasPart (frame.Notes last section ∷ fs) = ⊥
HasPart (frame.ExternalNotes ∷ fs) = ⊥
HasPart (frame.Descriptor number role ∷ fs) = ⊥

abbrev pub HasNotes : List Frame → Type 0
HasNotes [] = ⊥
HasNotes (frame.Elements left ∷ fs) = ⊥
HasNotes (frame.Fields last section pos prims values ∷ fs) = ⊥
HasNotes (frame.Notes last section ∷ fs) = Unit {0}
HasNotes (frame.ExternalNotes ∷ fs) = Unit {0}
HasNotes (frame.Descriptor number role ∷ fs) = Unit {0}

-- where the superclass place of the descriptor on top comes next, or its handle
abbrev pub superclass_goals : List (List Layer) → List Layer → List Frame → List Goal
superclass_goals C L [] = []
superclass_goals C L (frame.Descriptor number role ∷ fs) =
    superclass_goal (owner_in (chain_owner fs) role) (is_strict_above (goal_role (chain_owner fs) role) (head_layer L).flags) (suc (suc (length fs))) number (head_layer L)
    ∷ closed_goals C (tail_layers L) fs role number
superclass_goals C L (frame.Elements left ∷ fs) = []
superclass_goals C L (frame.Fields last section pos prims values ∷ fs) = []
superclass_goals C L (frame.Notes last section ∷ fs) = []
superclass_goals C L (frame.ExternalNotes ∷ fs) = []

abbrev pub superclass_handle_goals : List (List Layer) → List Layer → List Frame → List Goal
superclass_handle_goals C L [] = []
superclass_handle_goals C L (frame.Descriptor number role ∷ fs) =
    superclass_handle_goal (owner_in (chain_owner fs) role) (is_strict_above (goal_role (chain_owner fs) role) (head_layer L).flags) (suc (suc (length fs))) number (head_layer L)
    ∷ closed_goals C (tail_layers L) fs role number
superclass_handle_goals C L (frame.Elements left ∷ fs) = []
superclass_handle_goals C L (frame.Fields last section pos prims values ∷ fs) = []
superclass_handle_goals C L (frame.Notes last section ∷ fs) = []
superclass_handle_goals C L (frame.ExternalNotes ∷ fs) = []

-- A raw token comes next: so many raw values of one type, or the bytes of a block. After it the frames go on.
pub record PrimsReady (r : Seen) (s : State) : Type 0 where
  pub depth : ℕ
  pub type_code : PrimCode
  pub more : ℕ
  pub parts : List Part
  pub goals : List Goal
  pub is : s ≡ (moment_of r, parts_goal depth (raw_part type_code (suc more) ∷ parts) ∷ goals)
  pub size : r.left ≡ suc more * size_of type_code
  pub depth_is : FitsDepth (length r.frames) depth
  pub after : settle (moment_of r) (parts_goal depth parts ∷ goals) ≡ settle (moment_of r) (goals_of r)

pub record BytesReady (r : Seen) (s : State) : Type 0 where
  pub more : ℕ
  pub is : s ≡ (moment_of r, block_goal (length r.frames) (suc more) ∷ goals_of r)
  pub size : r.left ≡ suc more

-- the length of an array comes next, whose elements have the size that is kept
pub record LengthReady (r : Seen) (s : State) : Type 0 where
  pub elements : Option PrimCode
  pub is : s ≡ (moment_of r, array_length_goal elements (depth_of r) ∷ goals_of r)
  pub size : r.elements ≡ option_map size_of elements

-- the state of the machine, settled, where this token begins
abbrev pub ReadyAt : Phase → Seen → State → Type 0
ReadyAt phase.Header r s = (r.frames ≡ []) × (s ≡ (moment_of r, header_goal ∷ top_goal ∷ []))
ReadyAt phase.Top r s = (r.frames ≡ []) × (s ≡ (moment_of r, top_goal ∷ []))
ReadyAt phase.Note r s = HasNotes r.frames × (s ≡ (moment_of r, goals_of r))
ReadyAt phase.Value r s = HasPart r.frames × (s ≡ (moment_of r, value_goals r.table.chains r.layers r.frames))
ReadyAt phase.ClassTag r s = s ≡ (moment_of r, class_goal (goal_owner r.owner) (depth_of r) ∷ goals_of r)
ReadyAt phase.SuperTag r s = HasDescriptor r.frames × (s ≡ (moment_of r, superclass_goals r.table.chains r.layers r.frames))
ReadyAt phase.TextTag r s =
    IsForm r.text true × IsInside r.text r.frames × (s ≡ (moment_of r, text_place_goal (text_depth r r.text) ∷ text_rest r r.text))
ReadyAt phase.BackHandle r s = s ≡ (moment_of r, back_handle_goal (depth_of r) ∷ goals_of r)
ReadyAt phase.ClassHandle r s = s ≡ (moment_of r, class_handle_goal (goal_owner r.owner) (depth_of r) ∷ goals_of r)
ReadyAt phase.SuperHandle r s =
    HasDescriptor r.frames × (s ≡ (moment_of r, superclass_handle_goals r.table.chains r.layers r.frames))
ReadyAt phase.TextHandle r s =
    IsForm r.text true × IsInside r.text r.frames × (s ≡ (moment_of r, text_handle_goal (text_depth r r.text) ∷ text_rest r r.text))
ReadyAt phase.Length2 r s = IsInside r.text r.frames × (s ≡ (moment_of r, text_goal r r.text false ∷ text_rest r r.text))
ReadyAt phase.Length8 r s =
    IsForm r.text true × IsInside r.text r.frames × (s ≡ (moment_of r, text_goal r r.text true ∷ text_rest r r.text))
ReadyAt phase.Text r s = ⊥
ReadyAt phase.Suid r s =
    s ≡ (moment_of r, suid_goal (head_role r) (depth_of r) (name_kind_of r.header.kind) ∷ header_goals r (next_number (moment_of r)))
ReadyAt phase.Flags r s = HasDescriptor r.frames × (s ≡ flags_state r)
ReadyAt phase.FieldCount r s = HasDescriptor r.frames × (s ≡ field_count_state r (head_layer r.layers).flags)
ReadyAt phase.TypeCode r s = HasDescriptor r.frames × (0 < r.header.fields) × (s ≡ (moment_of r, fields_goals r r.header.fields))
ReadyAt phase.InterfaceCount r s = HasDescriptor r.frames × (s ≡ interface_count_state r)
ReadyAt phase.ArrayLength r s = LengthReady r s
ReadyAt phase.BlockLength1 r s = s ≡ (moment_of r, block_length_goal false (length r.frames) ∷ goals_of r)
ReadyAt phase.BlockLength4 r s = s ≡ (moment_of r, block_length_goal true (length r.frames) ∷ goals_of r)
ReadyAt phase.Prims r s = PrimsReady r s
ReadyAt phase.Bytes r s = BytesReady r s
ReadyAt phase.Cut r s = ⊥
ReadyAt phase.Stopped r s = ⊥

unfoldable pub Ready : Seen → State → Type 0
Ready r s = ReadyAt r.phase r s

-- the token that is the length of a text
abbrev pub length_phase : (long : Bool) → Phase
length_phase false = phase.Length2
length_phase true = phase.Length8

-- the head of a descriptor that is read in this role
abbrev pub in_role : Header → Role → Header
in_role h role = record { role = role; kind = h.kind; seen = h.seen; codes = h.codes; fields = h.fields; interfaces = h.interfaces }

-- the token that is the length of a block
abbrev pub block_phase : (long : Bool) → Phase
block_phase false = phase.BlockLength1
block_phase true = phase.BlockLength4
