-- The head of a descriptor: its suid, which assigns its handle, its flags, its fields; the interfaces of a proxy.
use Rattle.std.specs.Prelude.{◌≡◌, ℕ, ◌-◌, ◌<◌, ◌∷◌, [], false, length, reverse, slice_get, IsTrue, ◌||◌, Bool, true, List, Option, None}
use Rattle.jser_table.specs.declared.layer.Layer.{Layer}
use Rattle.jser_table.specs.Entries.{TableEntry, pending_entry, is_pending}
use Rattle.jser_table.specs.Sections.{no_layer}
use Rattle.jser_grammar.specs.Codes.{is_object_code}
use Rattle.jser_reading.specs.Moments.{assign, next_number}
use Rattle.jser_reading.specs.Goals.{State, settle, flags_goal, fields_goal, field_name_goal}
use Rattle.jser_reading.specs.Machine.{type_goals}
use Rattle.jser_reading.specs.Roles.{Role as GoalRole}
use Rattle.jser_verdict.specs.Reasons.{Reason, wrong_class, external_raw, not_serializable, handle_space}
use Rattle.jser_verdict.specs.ClassRows.{has_wrong_flags, has_raw_flags, has_unserial_flags}
use Rattle.jser_verdict.specs.Verdicts.{told_if}
use Rattle.jser_reader.specs.declared.machine.flow.Flow.{Flow}
use Rattle.jser_reader.specs.declared.machine.flow.Flow.TheVariants as flow
use Rattle.jser_reader.specs.declared.frame.Frame.{Frame}
use Rattle.jser_reader.specs.declared.frame.Frame.TheVariants as frame
use Rattle.jser_reader.specs.declared.frame.Role.{Role}
use Rattle.jser_reader.specs.declared.refusal.Stop.TheVariants as stop
use Rattle.jser_reader.specs.Readers.{Seen, moment_of, depth_of, head_role, header_goals, top_role, top_number, name_kind_of, opened_goals, fields_goals, interfaces_goals}
use Rattle.jser_reader.specs.Frames.{head_layer, tail_layers}
use Rattle.jser_reader.specs.Fitting.{FramesFit, HasDescriptor}
use Rattle.jser_reader.specs.Reasons.{named}
use Rattle.jser_reader.specs.Handlers.{StopsWith, refusal, TellsSurely, is_full, added}

-- the suid assigns the handle; the flags come next
unfoldable pub after_suid : Seen → State
after_suid r = (
  assign (moment_of r) pending_entry,
  flags_goal (head_role r) (depth_of r) (next_number (moment_of r)) (name_kind_of r.header.kind) ∷ header_goals r (next_number (moment_of r)),
)

-- so many fields come next
unfoldable pub after_field_count : Seen → ℕ → State
after_field_count r n =
    settle (moment_of r)
    (fields_goal (top_role r.frames) (length r.frames) (top_number r.frames) (name_kind_of r.header.kind) (head_layer r.layers).flags false [] n
    ∷ opened_goals r.table.chains r.layers r.frames)

-- the name of a field comes next, and its type text, if it has one
unfoldable pub after_code : Seen → ℕ → State
after_code r b = (
  moment_of r,
  field_name_goal (length r.frames) ∷ type_goals (is_object_code b) (length r.frames)
      (fields_goal (top_role r.frames) (length r.frames) (top_number r.frames) (name_kind_of r.header.kind) (head_layer r.layers).flags
      (r.header.seen || is_object_code b) (b ∷ reverse r.header.codes) (r.header.fields - 1)
      ∷ opened_goals r.table.chains r.layers r.frames),
)

-- so many interfaces come next
unfoldable pub after_interfaces : Seen → ℕ → State
after_interfaces r n = settle (moment_of r) (interfaces_goals r n)

-- what is wrong with the flags of a descriptor that is read in this role
abbrev pub role_reason : GoalRole → (flags : ℕ) → Option Reason
role_reason role flags =
    told_if (has_wrong_flags role flags) wrong_class
    (told_if (has_raw_flags role flags) external_raw (told_if (has_unserial_flags role flags) not_serializable None))

-- a descriptor may be put on the stack: its entry is open, and those of the descriptors below came before it
pub record CanOpen (T : List TableEntry) (C : List (List Layer)) (number : ℕ) (frames : List Frame) : Type 0 where
  pub pending : IsTrue (is_pending (slice_get T number))
  pub inside : number < length T
  pub below : FramesFit T C number frames

-- a descriptor was put on the stack, with a layer of its own in which nothing is yet
abbrev pub opened : Seen → Role → (number : ℕ) → Seen
opened r role number = record { meter = r.meter; phase = r.phase; frames = frame.Descriptor number role ∷ r.frames; layers = no_layer ∷ r.layers; table = r.table; refs = r.refs; owner = r.owner; elements = r.elements; header = r.header; text = r.text; left = r.left; scan = r.scan; name = r.name }

abbrev pub OpenCases : Role → (number : ℕ) → Flow → Seen → Seen → Type 0
OpenCases role number flow.On old new = new ≡ opened old role number
OpenCases role number flow.Stopped old new = StopsWith stop.OutOfMemory old new

unfoldable pub Opens : Role → (number : ℕ) → Flow → Seen → Seen → Type 0
Opens role number b old new = OpenCases role number b old new

-- a new descriptor got its handle and was put on the stack; or there is no handle left, or no memory
abbrev pub NewCases : Role → Flow → (full : Bool) → Seen → Seen → Type 0
NewCases role flow.On full old new = (full ≡ false) × (new ≡ opened (added old pending_entry) role (length old.table.entries))
NewCases role flow.Stopped true old new = StopsWith (refusal old.meter (named handle_space)) old new
NewCases role flow.Stopped false old new = StopsWith stop.OutOfMemory old new

unfoldable pub OpensNew : Role → Flow → Seen → Seen → Type 0
OpensNew role b old new = NewCases role b (is_full old) old new

-- the layer on top was replaced, and the fields of the descriptor were taken out
pub record SetsLayer (layer : Layer) (old new : Seen) : Type 0 where
  pub layers : new.layers ≡ layer ∷ tail_layers old.layers
  pub frames : new.frames ≡ old.frames
  pub table : new.table ≡ old.table
  pub refs : new.refs ≡ old.refs
  pub meter : new.meter ≡ old.meter

-- what comes after a field or an interface of the descriptor on top, of which so many are still to come
unfoldable pub GoesOnFields : Flow → Seen → Seen → Type 0
GoesOnFields b old new = HasDescriptor old.frames → TellsSurely None (settle (moment_of old) (fields_goals old old.header.fields)) b old new

unfoldable pub GoesOnInterfaces : Flow → Seen → Seen → Type 0
GoesOnInterfaces b old new = HasDescriptor old.frames → TellsSurely None (settle (moment_of old) (interfaces_goals old old.header.interfaces)) b old new
