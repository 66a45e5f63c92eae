-- The end of a text: for what it is refused, and what comes after it.
use Rattle.std.specs.Prelude.{◌≡◌, ℕ, ◌-◌, true, false, List, [], ◌∷◌, length, Option, Some, None, option_map, Result, Ok, Err}
use Rattle.jser_table.specs.declared.layer.LayerKind.{LayerKind}
use Rattle.jser_table.specs.Names.{name_kind}
use Rattle.jser_reading.specs.Moments.{next_number}
use Rattle.jser_reading.specs.Labels.{StreamToken, tag_token, reference_tag, string_tag, long_string_tag, text_place_at, text_handle_at}
use Rattle.jser_reading.specs.Goals.{State, settle, text_handle_goal, suid_goal}
use Rattle.jser_reading.specs.Machine.{type_goals}
use Rattle.jser_verdict.specs.Reasons.{Reason}
use Rattle.jser_verdict.specs.Gates.{Gate}
use Rattle.jser_verdict.specs.Verdicts.{class_name_reason, interface_reason, other_tag_reason, text_handle_reason}
use Rattle.jser_reader.specs.declared.phase.TextFor.{TextFor}
use Rattle.jser_reader.specs.declared.phase.TextFor.TheVariants as text
use Rattle.jser_reader.specs.declared.refusal.Reason.{Reason as CodeReason}
use Rattle.jser_reader.specs.Reasons.{named}
use Rattle.jser_reader.specs.Readers.{Seen, moment_of, depth_of, goals_of, name_kind_of, head_role, header_goals, fields_goals, interfaces_goals, text_depth, text_rest, is_checked, IsInside}
use Rattle.jser_reader.specs.Handlers.{opens_text, plain_gate, label_at}

-- a class name and an interface name are asked of the gate
abbrev pub text_reason_of : Gate → Seen → TextFor → List ℕ → Option Reason
text_reason_of gate r text.Value units = None
text_reason_of gate r text.FieldType units = None
text_reason_of gate r (text.FieldName is_object) units = None
text_reason_of gate r text.ClassName units = class_name_reason gate (head_role r) units
text_reason_of gate r text.InterfaceName units = interface_reason gate units

abbrev pub text_reason : Gate → Seen → List ℕ → Option Reason
text_reason gate r units = text_reason_of gate r r.text units

-- after the name of a class its suid comes
abbrev pub named_state : Seen → List ℕ → State
named_state r units =
    (moment_of r, suid_goal (head_role r) (depth_of r) (name_kind units) ∷ header_goals r (next_number (moment_of r)))

abbrev pub text_state_of : Seen → TextFor → List ℕ → State
text_state_of r text.Value units = settle (moment_of r) (goals_of r)
text_state_of r text.FieldType units = settle (moment_of r) (fields_goals r r.header.fields)
text_state_of r (text.FieldName is_object) units = settle (moment_of r) (type_goals is_object (length r.frames) (fields_goals r r.header.fields))
text_state_of r text.ClassName units = named_state r units
text_state_of r text.InterfaceName units = settle (moment_of r) (interfaces_goals r (r.header.interfaces - 1))

-- the state after the text that the machine reads, with these units
unfoldable pub after_text : Seen → List ℕ → State
after_text r units = text_state_of r r.text units

-- for what a tag in a text place is refused, and a handle
abbrev pub text_tag_reason : Seen → ℕ → Option Reason
text_tag_reason r b = other_tag_reason (plain_gate r) (label_at text_place_at (text_depth r r.text) r) b

abbrev pub handle_reason : Seen → ℕ → Option Reason
handle_reason r n = text_handle_reason (label_at text_handle_at (text_depth r r.text) r) n

-- the state after the tag of a text place
abbrev pub after_text_tag : Seen → Option StreamToken → State
after_text_tag r (Some (tag_token reference_tag)) = (moment_of r, text_handle_goal (text_depth r r.text) ∷ text_rest r r.text)
after_text_tag r (Some (tag_token string_tag)) = opens_text r r.text false
after_text_tag r (Some (tag_token long_string_tag)) = opens_text r r.text true
after_text_tag r _ = (moment_of r, [])

-- the text that the machine reads has these units, as far as it keeps them
pub record EndsText (r : Seen) (units : List ℕ) : Type 0 where
  pub inside : IsInside r.text r.frames
  pub kept : is_checked r.text ≡ true → r.name ≡ units

-- What the class is that has this name, or the reason for which the name is refused.
abbrev pub KindCases : Result LayerKind CodeReason → Option Reason → List ℕ → Type 0
KindCases (Ok kind) told name = (told ≡ None) × (name_kind_of kind ≡ name_kind name)
KindCases (Err reason) told name = option_map named told ≡ Some reason

unfoldable pub IsKindOf : Result LayerKind CodeReason → Option Reason → List ℕ → Type 0
IsKindOf result told name = KindCases result told name
