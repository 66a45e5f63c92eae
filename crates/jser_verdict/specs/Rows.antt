-- The table of refusals: of each reason, when its row holds of the bytes of a token so far, by the token's label and
-- the gate. Read `row`, at the end, beside the table; each of its words is a line for each position.
-- Where the fault lies within a token (BadHeader, BadText, NegativeLength of a text) the row stays true with more
-- bytes. The first fault has the least end, which is that of the first byte at fault. BytesExceeded and Truncated are
-- no matter of one token: see `FirstFault`.
use Rattle.std.specs.Prelude.{ℕ, ◌^◌, ◌&&◌, ◌||◌, not, Bool, true, false, nat_lt, nat_le, nat_eq, List, [], ◌∷◌, length, Some, is_some}
use Rattle.jser_table.specs.Chains.{is_serializable, is_externalizable}
use Rattle.jser_table.specs.Names.{name_kind}
use Rattle.jser_grammar.specs.Codes.{prim_code_of, is_object_code}
use Rattle.jser_grammar.specs.Parts.{is_malformed}
use Rattle.jser_grammar.specs.Wire.{stream_header}
use Rattle.jser_reading.specs.Labels.{Position, header_at, class_handle_at, superclass_handle_at, string_at, class_name_at, field_name_at, interface_name_at, suid_at, field_count_at, interface_count_at, array_length_at, flags_at, type_code_at, block_length_at, Label}
use Rattle.jser_verdict.specs.Reasons.{Reason, bytes_exceeded, bad_header, bad_tag, exception_tag, reset_inside, bad_text, negative_length, bad_type_code, field_order, bad_flags, null_class, no_such_handle, wrong_kind, open_descriptor, bad_array_name, wrong_class, external_raw, not_serializable, class_rejected, class_unmatched, depth_exceeded, refs_exceeded, array_exceeded, truncated, handle_space}
use Rattle.jser_verdict.specs.Gates.{Gate, is_rejected, is_unmatched}
use Rattle.jser_verdict.specs.BytesSoFar.{of_byte, of_number, differs}
use Rattle.jser_verdict.specs.TextsSoFar.{has_head, text_length, has_wrong_byte, of_text}
use Rattle.jser_verdict.specs.TagRows.{tag_row, is_known_tag, is_exception, is_reset_inside, is_null_class, is_place_tag, is_handle_tag}
use Rattle.jser_verdict.specs.HandleRows.{handle_row, is_no_handle, entry_named, is_wrong_kind, is_open_descriptor}
use Rattle.jser_verdict.specs.ClassRows.{wrong_class_row, external_raw_row, not_serializable_row}

-- STREAM_MAGIC and STREAM_VERSION
abbrev pub bad_header_row : Position → List ℕ → Bool
bad_header_row header_at bytes = differs stream_header bytes
bad_header_row _ bytes = false

abbrev pub bad_text_row : Position → List ℕ → Bool
bad_text_row (string_at long) bytes = has_wrong_byte long bytes
bad_text_row (class_name_at role) bytes = has_wrong_byte false bytes
bad_text_row field_name_at bytes = has_wrong_byte false bytes
bad_text_row interface_name_at bytes = has_wrong_byte false bytes
bad_text_row _ bytes = false

-- the highest bit of the number is set
abbrev pub negative_length_row : Position → List ℕ → Bool
negative_length_row field_count_at bytes = of_number 2 bytes (λ n. nat_le (2 ^ 15) n)
negative_length_row interface_count_at bytes = of_number 4 bytes (λ n. nat_le (2 ^ 31) n)
negative_length_row array_length_at bytes = of_number 4 bytes (λ n. nat_le (2 ^ 31) n)
negative_length_row (block_length_at true) bytes = of_number 4 bytes (λ n. nat_le (2 ^ 31) n)
negative_length_row (string_at true) bytes = has_head true bytes && nat_le (2 ^ 63) (text_length true bytes)
negative_length_row _ bytes = false

-- `seen` tells of an object field before it in its descriptor
abbrev pub code_row : Position → List ℕ → ((seen : Bool) → ℕ → Bool) → Bool
code_row (type_code_at seen) bytes test = of_byte bytes (test seen)
code_row _ bytes test = false

abbrev pub flags_row : Position → List ℕ → (ℕ → Bool) → Bool
flags_row (flags_at role) bytes test = of_byte bytes test
flags_row _ bytes test = false

-- the checked names
abbrev pub name_row : Position → List ℕ → (List ℕ → Bool) → Bool
name_row (class_name_at role) bytes test = of_text false bytes test
name_row interface_name_at bytes test = of_text false bytes test
name_row _ bytes test = false

abbrev pub length_row : Position → List ℕ → (ℕ → Bool) → Bool
length_row array_length_at bytes test = of_number 4 bytes test
length_row _ bytes test = false

-- A handle is assigned at the end of this token: of a plain descriptor's suid; of the handle that is the class of an
-- owner, or ends its chain; or of a tag that assigns one.
abbrev pub assigns_at : Position → List ℕ → Bool
assigns_at suid_at bytes = nat_eq (length bytes) 8
assigns_at (class_handle_at owner) bytes = nat_eq (length bytes) 4
assigns_at (superclass_handle_at (Some owner) strict) bytes = nat_eq (length bytes) 4
assigns_at position bytes = tag_row position bytes (is_handle_tag position)

abbrev pub is_no_code : ℕ → Bool
is_no_code code = not (is_some (prim_code_of code) || is_object_code code)

-- a bit of E0; SC_SERIALIZABLE with SC_EXTERNALIZABLE
abbrev pub are_bad_flags : ℕ → Bool
are_bad_flags flags = nat_le 32 flags || (is_serializable flags && is_externalizable flags)

-- the row of each reason
abbrev pub row : Reason → Gate → Label → List ℕ → Bool
row bytes_exceeded gate label bytes = false
row bad_header gate label bytes = bad_header_row label.position bytes
row bad_tag gate label bytes = tag_row label.position bytes (λ tag. not (is_known_tag label.position tag))
row exception_tag gate label bytes = tag_row label.position bytes (is_exception label.position)
row reset_inside gate label bytes = tag_row label.position bytes (is_reset_inside label.position)
row bad_text gate label bytes = bad_text_row label.position bytes
row negative_length gate label bytes = negative_length_row label.position bytes
row bad_type_code gate label bytes = code_row label.position bytes (λ seen code. is_no_code code)
row field_order gate label bytes = code_row label.position bytes (λ seen code. seen && is_some (prim_code_of code))
row bad_flags gate label bytes = flags_row label.position bytes are_bad_flags
row null_class gate label bytes = tag_row label.position bytes (is_null_class label.position)
row no_such_handle gate label bytes = handle_row label.position bytes (is_no_handle label.moment.table)
row wrong_kind gate label bytes = handle_row label.position bytes (λ n. is_wrong_kind label.position (entry_named label.moment.table n))
row open_descriptor gate label bytes =
    handle_row label.position bytes (λ n. is_open_descriptor label.position (entry_named label.moment.table n))
row bad_array_name gate label bytes = name_row label.position bytes (λ name. is_malformed (name_kind name))
row wrong_class gate label bytes = wrong_class_row label.position label.moment.table bytes
row external_raw gate label bytes = external_raw_row label.position label.moment.table bytes
row not_serializable gate label bytes = not_serializable_row label.position label.moment.table bytes
row class_rejected gate label bytes = name_row label.position bytes (λ name. is_rejected (gate.answer name))
row class_unmatched gate label bytes = name_row label.position bytes (λ name. is_unmatched (gate.answer name))
row depth_exceeded gate label bytes =
    tag_row label.position bytes (λ tag. is_place_tag label.position tag && nat_lt gate.depth label.depth)
row refs_exceeded gate label bytes =
    tag_row label.position bytes (λ tag. is_place_tag label.position tag && nat_le gate.refs label.moment.places)
row array_exceeded gate label bytes = length_row label.position bytes (λ n. nat_lt gate.array n)
row truncated gate label bytes = false
row handle_space gate label bytes = assigns_at label.position bytes && nat_le gate.handles (length label.moment.table)
