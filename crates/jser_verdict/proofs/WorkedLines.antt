-- Further lines of the tables of tags, classes and refusals, each worked by computation on a stream of its own: each
-- place of a reason has one here or in `WorkedAnswers`.
use Rattle.std.proofs.Common.{◌≡◌, [], ◌∷◌, refl, codes}
use Rattle.jser_reading.specs.TokensFromBytes.{tag_from, units_in, prims_in}
use Rattle.jser_verdict.specs.Reasons.{bad_array_name, bad_flags, bad_tag, bad_text, bytes_exceeded, class_unmatched, depth_exceeded, exception_tag, external_raw, handle_space, negative_length, no_such_handle, not_serializable, null_class, open_descriptor, reset_inside, wrong_class, wrong_kind}
use Rattle.jser_verdict.specs.Gates.{lowered}
use Rattle.jser_verdict.specs.Answers.{accepted, refused_at, answer}
use Rattle.jser_verdict.proofs.WorkedStreams.{hex, int_array_of, proxy, class_a, after_class_a, open_gate, with_bytes, with_depth, with_refs, with_handles, rejecting, matching_none}

-- a class that was read before, as the class of an object, an array, an enum constant

raw_at_handle : answer open_gate (after_class_a (0x04 ∷ []) (hex (codes "73 71007E0000"))) ≡ refused_at 23 27 external_raw
unfolding tag_from units_in prims_in
raw_at_handle = refl

unserial_at_handle : answer open_gate (after_class_a (0x00 ∷ []) (hex (codes "73 71007E0000"))) ≡ refused_at 23 27 not_serializable
unfolding tag_from units_in prims_in
unserial_at_handle = refl

no_array_at_handle : answer open_gate (after_class_a (0x02 ∷ []) (hex (codes "75 71007E0000"))) ≡ refused_at 23 27 wrong_class
unfolding tag_from units_in prims_in
no_array_at_handle = refl

no_enum_at_handle : answer open_gate (after_class_a (0x02 ∷ []) (hex (codes "7E 71007E0000"))) ≡ refused_at 23 27 wrong_class
unfolding tag_from units_in prims_in
no_enum_at_handle = refl

-- a new class of an object, an enum constant

array_at_object : answer open_gate (hex (codes "ACED0005 73 72 0002 5B49")) ≡ refused_at 6 10 wrong_class
unfolding tag_from units_in prims_in
array_at_object = refl

no_enum_flags : answer open_gate (hex (codes "ACED0005 7E 72 0001 41 0000000000000001 02")) ≡ refused_at 17 18 wrong_class
unfolding tag_from units_in prims_in
no_enum_flags = refl

proxy_at_enum : answer open_gate (hex (codes "ACED0005 7E 7D")) ≡ refused_at 5 6 wrong_class
unfolding tag_from units_in prims_in
proxy_at_enum = refl

-- tags that are no tags of their place, and null in class places

null_at_text : answer open_gate (hex (codes "ACED0005 7E 72 0001 45 0000000000000000 12 0000 78 70 70")) ≡ refused_at 22 23 bad_tag
unfolding tag_from units_in prims_in
null_at_text = refl

string_at_class : answer open_gate (hex (codes "ACED0005 73 74")) ≡ refused_at 5 6 bad_tag
unfolding tag_from units_in prims_in
string_at_class = refl

reset_at_class : answer open_gate (hex (codes "ACED0005 73 79")) ≡ refused_at 5 6 bad_tag
unfolding tag_from units_in prims_in
reset_at_class = refl

exception_at_superclass : answer open_gate (class_a (hex (codes "02 0000 78 7B"))) ≡ refused_at 20 21 bad_tag
unfolding tag_from units_in prims_in
exception_at_superclass = refl

block_at_value : answer open_gate (hex (codes "ACED0005 75 72 0004 5B4C413B 0000000000000001 02 0000 78 70 00000001 77")) ≡ refused_at 29 30 bad_tag
unfolding tag_from units_in prims_in
block_at_value = refl

exception_at_value : answer open_gate (hex (codes "ACED0005 75 72 0004 5B4C413B 0000000000000001 02 0000 78 70 00000001 7B")) ≡ refused_at 29 30 exception_tag
unfolding tag_from units_in prims_in
exception_at_value = refl

null_at_enum : answer open_gate (hex (codes "ACED0005 7E 70")) ≡ refused_at 5 6 null_class
unfolding tag_from units_in prims_in
null_at_enum = refl

-- a reference in a text place

no_string_at_type : answer open_gate (class_a (hex (codes "02 0001 4C 0001 61 71007E0000"))) ≡ refused_at 24 28 wrong_kind
unfolding tag_from units_in prims_in
no_string_at_type = refl

-- counts, lengths, names of interfaces

interface_count_bit : answer open_gate (hex (codes "ACED0005 7D FFFFFFFF")) ≡ refused_at 5 9 negative_length
unfolding tag_from units_in prims_in
interface_count_bit = refl

array_length_bit : answer open_gate (int_array_of (hex (codes "FFFFFFFF"))) ≡ refused_at 23 27 negative_length
unfolding tag_from units_in prims_in
array_length_bit = refl

malformed_interface : answer open_gate (hex (codes "ACED0005 7D 00000001 0002 5B56")) ≡ refused_at 9 13 bad_array_name
unfolding tag_from units_in prims_in
malformed_interface = refl

-- a byte that cannot stand in a text is told at once

cut_unit : answer open_gate (hex (codes "ACED0005 74 0001 C3")) ≡ refused_at 5 8 bad_text
unfolding tag_from units_in prims_in
cut_unit = refl

early_text : answer open_gate (hex (codes "ACED0005 74 0003 C300")) ≡ refused_at 5 9 bad_text
unfolding tag_from units_in prims_in
early_text = refl

-- a limit of bytes below the header

header_or_limit : answer (with_bytes 0) (hex (codes "00")) ≡ refused_at 0 1 bytes_exceeded
unfolding tag_from units_in prims_in
header_or_limit = refl

-- the other tokens at which a handle is assigned

long_string_handle : answer (with_handles 0 65535) (hex (codes "ACED0005 7C")) ≡ refused_at 4 5 handle_space
unfolding tag_from units_in prims_in
long_string_handle = refl

proxy_handle : answer (with_handles 0 65535) (hex (codes "ACED0005 7D")) ≡ refused_at 4 5 handle_space
unfolding tag_from units_in prims_in
proxy_handle = refl

class_object_handle : answer (with_handles 1 65535) (after_class_a (0x02 ∷ []) (hex (codes "76 71007E0000"))) ≡ refused_at 23 27 handle_space
unfolding tag_from units_in prims_in
class_object_handle = refl

-- the other places of a tag

unknown_at_annotation : answer open_gate (class_a (hex (codes "02 0000 7F"))) ≡ refused_at 19 20 bad_tag
unfolding tag_from units_in prims_in
unknown_at_annotation = refl

exception_at_annotation : answer open_gate (class_a (hex (codes "02 0000 7B"))) ≡ refused_at 19 20 exception_tag
unfolding tag_from units_in prims_in
exception_at_annotation = refl

reset_at_value : answer open_gate (hex (codes "ACED0005 75 72 0004 5B4C413B 0000000000000001 02 0000 78 70 00000001 79")) ≡ refused_at 29 30 reset_inside
unfolding tag_from units_in prims_in
reset_at_value = refl

-- the other texts

field_name_text : answer open_gate (class_a (hex (codes "02 0001 49 0001 00"))) ≡ refused_at 20 23 bad_text
unfolding tag_from units_in prims_in
field_name_text = refl

interface_name_text : answer open_gate (hex (codes "ACED0005 7D 00000001 0001 00")) ≡ refused_at 9 12 bad_text
unfolding tag_from units_in prims_in
interface_name_text = refl

long_string_text : answer open_gate (hex (codes "ACED0005 7C 0000000000000001 00")) ≡ refused_at 5 14 bad_text
unfolding tag_from units_in prims_in
long_string_text = refl

-- modified UTF-8: which bytes may stand where

bare_null : answer open_gate (hex (codes "ACED0005 74 0001 00")) ≡ refused_at 5 8 bad_text
unfolding tag_from units_in prims_in
bare_null = refl

tail_first : answer open_gate (hex (codes "ACED0005 74 0001 80")) ≡ refused_at 5 8 bad_text
unfolding tag_from units_in prims_in
tail_first = refl

four_bytes : answer open_gate (hex (codes "ACED0005 74 0004 F0")) ≡ refused_at 5 8 bad_text
unfolding tag_from units_in prims_in
four_bytes = refl

null_in_two : answer open_gate (hex (codes "ACED0005 74 0002 C080")) ≡ accepted
unfolding tag_from units_in prims_in
null_in_two = refl

other_after_c0 : answer open_gate (hex (codes "ACED0005 74 0002 C081")) ≡ refused_at 5 9 bad_text
unfolding tag_from units_in prims_in
other_after_c0 = refl

short_in_three : answer open_gate (hex (codes "ACED0005 74 0003 E080")) ≡ refused_at 5 9 bad_text
unfolding tag_from units_in prims_in
short_in_three = refl

least_in_three : answer open_gate (hex (codes "ACED0005 74 0003 E0A080")) ≡ accepted
unfolding tag_from units_in prims_in
least_in_three = refl

three_without_room : answer open_gate (hex (codes "ACED0005 74 0002 E0")) ≡ refused_at 5 8 bad_text
unfolding tag_from units_in prims_in
three_without_room = refl

-- which class a handle names

second_class : answer open_gate (after_class_a (0x00 ∷ []) (hex (codes "72 0001 42 0000000000000001 02 0000 78 70 73 71007E0001"))) ≡ accepted
unfolding tag_from units_in prims_in
second_class = refl

first_class : answer open_gate (after_class_a (0x00 ∷ []) (hex (codes "72 0001 42 0000000000000001 02 0000 78 70 73 71007E0000"))) ≡ refused_at 40 44 not_serializable
unfolding tag_from units_in prims_in
first_class = refl

-- flags with a bit of E0

unknown_flags : answer open_gate (class_a (hex (codes "22"))) ≡ refused_at 16 17 bad_flags
unfolding tag_from units_in prims_in
unknown_flags = refl

-- the other places of a handle

below_handles : answer open_gate (hex (codes "ACED0005 71007DFFFF")) ≡ refused_at 5 9 no_such_handle
unfolding tag_from units_in prims_in
below_handles = refl

no_handle_at_type : answer open_gate (class_a (hex (codes "02 0001 4C 0001 61 71007E0001"))) ≡ refused_at 24 28 no_such_handle
unfolding tag_from units_in prims_in
no_handle_at_type = refl

no_handle_at_class : answer open_gate (hex (codes "ACED0005 73 71007E0000")) ≡ refused_at 6 10 no_such_handle
unfolding tag_from units_in prims_in
no_handle_at_class = refl

no_handle_at_superclass : answer open_gate (class_a (hex (codes "02 0000 78 71007E0001"))) ≡ refused_at 21 25 no_such_handle
unfolding tag_from units_in prims_in
no_handle_at_superclass = refl

no_class_at_superclass : answer open_gate (hex (codes "ACED0005 74000161 72 0001 41 0000000000000001 02 0000 78 71007E0000")) ≡ refused_at 25 29 wrong_kind
unfolding tag_from units_in prims_in
no_class_at_superclass = refl

open_at_class : answer open_gate (class_a (hex (codes "02 0000 73 71007E0000"))) ≡ refused_at 21 25 open_descriptor
unfolding tag_from units_in prims_in
open_at_class = refl

array_at_object_handle : answer open_gate (hex (codes "ACED0005 72 0002 5B49 0000000000000001 02 0000 78 70 73 71007E0000")) ≡ refused_at 24 28 wrong_class
unfolding tag_from units_in prims_in
array_at_object_handle = refl

-- a name of an interface that is not matched

interface_unmatched : answer matching_none proxy ≡ refused_at 10 13 class_unmatched
unfolding tag_from units_in prims_in
interface_unmatched = refl

-- the handle of a superclass ends the class of an object, and that of a descriptor alone no class

superclass_handle_space : answer (with_handles 2 65535) (after_class_a (0x02 ∷ []) (hex (codes "73 72 0001 42 0000000000000001 02 0000 78 71007E0000"))) ≡ refused_at 39 43 handle_space
unfolding tag_from units_in prims_in
superclass_handle_space = refl

no_owner_no_handle : answer (with_handles 2 65535) (after_class_a (0x02 ∷ []) (hex (codes "72 0001 42 0000000000000001 02 0000 78 71007E0000"))) ≡ accepted
unfolding tag_from units_in prims_in
no_owner_no_handle = refl

-- further ties

wrong_class_tie : answer (rejecting (codes "A")) (hex (codes "ACED0005 75 72 0001 41")) ≡ refused_at 6 9 wrong_class
unfolding tag_from units_in prims_in
wrong_class_tie = refl

bad_flags_tie : answer open_gate (hex (codes "ACED0005 73 72 0001 41 0000000000000001 06")) ≡ refused_at 17 18 bad_flags
unfolding tag_from units_in prims_in
bad_flags_tie = refl

no_class_tie : answer (with_depth 0) (hex (codes "ACED0005 7F")) ≡ refused_at 4 5 bad_tag
unfolding tag_from units_in prims_in
no_class_tie = refl

depth_tie : answer (lowered 2147483647 0 (with_refs 0)) (hex (codes "ACED0005 70")) ≡ refused_at 4 5 depth_exceeded
unfolding tag_from units_in prims_in
depth_tie = refl

-- three arrays, one inside the other, where the depth of trees is 3: the caps of trees lower a gate's limits

nested_too_deep :
    answer (lowered 2147483647 3 open_gate)
    (hex (codes "ACED0005 75 72 0004 5B4C413B 0000000000000001 02 0000 78 70 00000001 75 71007E0000 00000001 75 71007E0000 00000001 70"))
    ≡ refused_at 49 50 depth_exceeded
unfolding tag_from units_in prims_in
nested_too_deep = refl
