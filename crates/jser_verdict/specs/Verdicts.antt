-- The verdict on the bytes of a token: the reason for which they are refused, if they are, in one small function for
-- each kind of token, its tests in the order of ties. This is a second text beside `Rows`, made for code to follow;
-- that the two agree is proved.
use Rattle.std.specs.Prelude.{ℕ, ◌^◌, ◌&&◌, not, Bool, true, false, if◌then◌else◌, cond, nat_lt, nat_le, nat_eq, List, [], ◌∷◌, length, Option, Some, None, is_some}
use Rattle.jser_table.specs.Entries.{is_pending}
use Rattle.jser_table.specs.Names.{name_kind}
use Rattle.jser_grammar.specs.Codes.{prim_code_of}
use Rattle.jser_grammar.specs.Parts.{is_malformed}
use Rattle.jser_grammar.specs.Wire.{TC_NULL, TC_RESET, TC_EXCEPTION, stream_header}
use Rattle.jser_reading.specs.Roles.{Owner, ChainOwner, Role}
use Rattle.jser_reading.specs.Labels.{StreamToken, Position, nowhere, header_at, top_at, annotation_at, value_at, text_place_at, class_place_at, superclass_place_at, back_handle_at, text_handle_at, class_handle_at, superclass_handle_at, string_at, class_name_at, field_name_at, interface_name_at, suid_at, field_count_at, interface_count_at, array_length_at, flags_at, type_code_at, block_length_at, raw_at, bytes_at, Label}
use Rattle.jser_reading.specs.TokensFromBytes.{number_of, size_in, token_in}
use Rattle.jser_reading.specs.Scanner.{Verdict, more, good, bad, VerdictOn}
use Rattle.jser_verdict.specs.Reasons.{Reason, bad_header, bad_tag, exception_tag, reset_inside, bad_text, negative_length, bad_type_code, field_order, bad_flags, null_class, no_such_handle, wrong_kind, open_descriptor, bad_array_name, wrong_class, external_raw, not_serializable, class_rejected, class_unmatched, depth_exceeded, refs_exceeded, array_exceeded, handle_space, turn}
use Rattle.jser_verdict.specs.Gates.{Gate, is_rejected, is_unmatched}
use Rattle.jser_verdict.specs.BytesSoFar.{differs}
use Rattle.jser_verdict.specs.TextsSoFar.{has_head, text_length, has_wrong_byte, is_whole_text, text_units}
use Rattle.jser_verdict.specs.TagRows.{is_known_tag, is_wrong_proxy, is_place_tag, is_handle_tag}
use Rattle.jser_verdict.specs.HandleRows.{is_no_handle, entry_named, is_no_text, is_no_descriptor}
use Rattle.jser_verdict.specs.ClassRows.{is_wrong, is_raw, is_unserial, fit_at, is_unserial_superclass, is_wrong_name, has_wrong_flags, has_raw_flags, has_unserial_flags}
use Rattle.jser_verdict.specs.Rows.{is_no_code, are_bad_flags}

-- a reason where a test holds, and else what the others tell
abbrev pub told_if : Bool → Reason → Option Reason → Option Reason
told_if test reason others = if test then Some reason else others

abbrev pub on_byte : List ℕ → (ℕ → Option Reason) → Option Reason
on_byte [] tell = None
on_byte (b ∷ []) tell = tell b
on_byte (b ∷ c ∷ bytes) tell = None

abbrev pub on_number : ℕ → List ℕ → (ℕ → Option Reason) → Option Reason
on_number k bytes tell = if nat_eq (length bytes) k then tell (number_of bytes) else None

-- no handle is left
abbrev pub is_full : Gate → Label → Bool
is_full gate label = nat_le gate.handles (length label.moment.table)

abbrev pub limit_reason : Gate → Label → ℕ → Option Reason
limit_reason gate label b =
    told_if (is_place_tag label.position b && nat_lt gate.depth label.depth) depth_exceeded
    (told_if (is_place_tag label.position b && nat_le gate.refs label.moment.places) refs_exceeded
    (told_if (is_handle_tag label.position b && is_full gate label) handle_space None))

-- a tag of a content, a value; of a class place; of a superclass place or text place

abbrev pub content_reason : Gate → Label → ℕ → Option Reason
content_reason gate label b =
    told_if (not (is_known_tag label.position b)) bad_tag (told_if (nat_eq b TC_EXCEPTION) exception_tag (limit_reason gate label b))

abbrev pub inner_reason : Gate → Label → ℕ → Option Reason
inner_reason gate label b =
    told_if (not (is_known_tag label.position b)) bad_tag
    (told_if (nat_eq b TC_EXCEPTION) exception_tag (told_if (nat_eq b TC_RESET) reset_inside (limit_reason gate label b)))

abbrev pub class_tag_reason : Gate → Label → Owner → ℕ → Option Reason
class_tag_reason gate label owner b =
    told_if (not (is_known_tag label.position b)) bad_tag
    (told_if (nat_eq b TC_NULL) null_class (told_if (is_wrong_proxy owner b) wrong_class (limit_reason gate label b)))

abbrev pub other_tag_reason : Gate → Label → ℕ → Option Reason
other_tag_reason gate label b = told_if (not (is_known_tag label.position b)) bad_tag (limit_reason gate label b)

-- handles

abbrev pub text_handle_reason : Label → ℕ → Option Reason
text_handle_reason label n =
    told_if (is_no_handle label.moment.table n) no_such_handle
    (told_if (is_no_text (entry_named label.moment.table n)) wrong_kind None)

abbrev pub class_handle_reason : Gate → Label → Owner → ℕ → Option Reason
class_handle_reason gate label owner n =
    told_if (is_no_handle label.moment.table n) no_such_handle
    (told_if (is_no_descriptor (entry_named label.moment.table n)) wrong_kind
    (told_if (is_pending (entry_named label.moment.table n)) open_descriptor
    (told_if (fit_at owner (entry_named label.moment.table n) is_wrong) wrong_class
    (told_if (fit_at owner (entry_named label.moment.table n) is_raw) external_raw
    (told_if (fit_at owner (entry_named label.moment.table n) is_unserial) not_serializable
    (told_if (is_full gate label) handle_space None))))))

abbrev pub superclass_handle_reason : Gate → Label → ChainOwner → Bool → ℕ → Option Reason
superclass_handle_reason gate label owner strict n =
    told_if (is_no_handle label.moment.table n) no_such_handle
    (told_if (is_no_descriptor (entry_named label.moment.table n)) wrong_kind
    (told_if (is_pending (entry_named label.moment.table n)) open_descriptor
    (told_if (is_unserial_superclass strict (entry_named label.moment.table n)) not_serializable
    (told_if (is_some owner && is_full gate label) handle_space None))))

-- texts

abbrev pub checked_reason : Gate → List ℕ → Option Reason
checked_reason gate name =
    told_if (is_rejected (gate.answer name)) class_rejected (told_if (is_unmatched (gate.answer name)) class_unmatched None)

abbrev pub class_name_reason : Gate → Role → List ℕ → Option Reason
class_name_reason gate role name =
    told_if (is_malformed (name_kind name)) bad_array_name
    (told_if (is_wrong_name role (name_kind name)) wrong_class (checked_reason gate name))

abbrev pub interface_reason : Gate → List ℕ → Option Reason
interface_reason gate name = told_if (is_malformed (name_kind name)) bad_array_name (checked_reason gate name)

abbrev pub on_text : List ℕ → (List ℕ → Option Reason) → Option Reason
on_text bytes tell =
    told_if (has_wrong_byte false bytes) bad_text (if is_whole_text false bytes then tell (text_units false bytes) else None)

abbrev pub string_reason : Bool → List ℕ → Option Reason
string_reason false bytes = told_if (has_wrong_byte false bytes) bad_text None
string_reason true bytes =
    told_if (has_wrong_byte true bytes) bad_text
    (told_if (has_head true bytes && nat_le (2 ^ 63) (text_length true bytes)) negative_length None)

-- numbers, flags, type codes

abbrev pub count_reason : ℕ → ℕ → Option Reason
count_reason bound n = told_if (nat_le bound n) negative_length None

abbrev pub array_reason : Gate → ℕ → Option Reason
array_reason gate n = told_if (nat_le (2 ^ 31) n) negative_length (told_if (nat_lt gate.array n) array_exceeded None)

abbrev pub block_reason : Bool → List ℕ → Option Reason
block_reason false bytes = None
block_reason true bytes = on_number 4 bytes (count_reason (2 ^ 31))

abbrev pub flags_reason : Role → ℕ → Option Reason
flags_reason role n =
    told_if (are_bad_flags n) bad_flags
    (told_if (has_wrong_flags role n) wrong_class
    (told_if (has_raw_flags role n) external_raw (told_if (has_unserial_flags role n) not_serializable None)))

abbrev pub code_reason : Bool → ℕ → Option Reason
code_reason seen code =
    told_if (is_no_code code) bad_type_code
    (told_if (seen && is_some (prim_code_of code)) field_order None)

-- the reason for which bytes are refused, if they are
abbrev pub reason_at : Gate → Label → Position → List ℕ → Option Reason
reason_at gate label nowhere bytes = None
reason_at gate label header_at bytes = told_if (differs stream_header bytes) bad_header None
reason_at gate label top_at bytes = on_byte bytes (content_reason gate label)
reason_at gate label annotation_at bytes = on_byte bytes (inner_reason gate label)
reason_at gate label value_at bytes = on_byte bytes (inner_reason gate label)
reason_at gate label text_place_at bytes = on_byte bytes (other_tag_reason gate label)
reason_at gate label (class_place_at owner) bytes = on_byte bytes (class_tag_reason gate label owner)
reason_at gate label (superclass_place_at owner strict) bytes = on_byte bytes (other_tag_reason gate label)
reason_at gate label back_handle_at bytes = on_number 4 bytes (λ n. told_if (is_no_handle label.moment.table n) no_such_handle None)
reason_at gate label text_handle_at bytes = on_number 4 bytes (text_handle_reason label)
reason_at gate label (class_handle_at owner) bytes = on_number 4 bytes (class_handle_reason gate label owner)
reason_at gate label (superclass_handle_at owner strict) bytes = on_number 4 bytes (superclass_handle_reason gate label owner strict)
reason_at gate label (string_at long) bytes = string_reason long bytes
reason_at gate label (class_name_at role) bytes = on_text bytes (class_name_reason gate role)
reason_at gate label field_name_at bytes = on_text bytes (λ name. None)
reason_at gate label interface_name_at bytes = on_text bytes (interface_reason gate)
reason_at gate label suid_at bytes = on_number 8 bytes (λ n. told_if (is_full gate label) handle_space None)
reason_at gate label field_count_at bytes = on_number 2 bytes (count_reason (2 ^ 15))
reason_at gate label interface_count_at bytes = on_number 4 bytes (count_reason (2 ^ 31))
reason_at gate label array_length_at bytes = on_number 4 bytes (array_reason gate)
reason_at gate label (flags_at role) bytes = on_byte bytes (flags_reason role)
reason_at gate label (type_code_at seen) bytes = on_byte bytes (code_reason seen)
reason_at gate label (block_length_at long) bytes = block_reason long bytes
reason_at gate label (raw_at c n) bytes = None
reason_at gate label (bytes_at n) bytes = None

-- a refusal is told by its turn
abbrev pub by_reason : Option Reason → Verdict → Verdict
by_reason None others = others
by_reason (Some reason) others = bad (turn reason)

-- as many bytes as the token needs, and no reason, are the token
abbrev pub found_token : Option StreamToken → Verdict
found_token None = bad 0
found_token (Some token) = good token

abbrev pub verdict : Gate → VerdictOn
verdict gate label bytes =
    by_reason (reason_at gate label label.position bytes)
    (cond (nat_lt (length bytes) (size_in label.position bytes)) more (found_token (token_in label.position bytes)))
