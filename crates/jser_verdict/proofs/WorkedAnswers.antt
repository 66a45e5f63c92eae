-- Streams worked by computation: what is answered of each, by the verdict that code follows. Each row has the plain
-- name by which the tests of the calls know it too. Each reason occurs.
use Rattle.std.proofs.Common.{◌≡◌, ℕ, zero, suc, Bool, true, false, ◌&&◌, nat_eq, [], ◌∷◌, ◌++◌, take, refl, codes}
use Rattle.std.specs.Prelude.{replicate}
use Rattle.jser_reading.specs.TokensFromBytes.{tag_from, units_in, prims_in}
use Rattle.jser_verdict.specs.Reasons.{array_exceeded, bad_array_name, bad_flags, bad_header, bad_tag, bad_text, bad_type_code, bytes_exceeded, class_rejected, class_unmatched, depth_exceeded, exception_tag, external_raw, field_order, handle_space, negative_length, no_such_handle, not_serializable, null_class, open_descriptor, refs_exceeded, reset_inside, truncated, wrong_class, wrong_kind}
use Rattle.jser_verdict.specs.Answers.{Told, accepted, refused_at, answer}
use Rattle.jser_verdict.proofs.WorkedStreams.{hex, linked_pair, int_array_of, enum_constant, proxy, array_list, external_over_serial, superclass_first, class_a, open_gate, with_bytes, with_depth, with_refs, with_array, with_handles, rejecting, rejecting_but, matching_none}

-- rows of streams

empty_stream_1 : answer open_gate (hex (codes "ACED0005")) ≡ accepted
unfolding tag_from units_in prims_in
empty_stream_1 = refl

empty_stream_2 : answer open_gate [] ≡ refused_at 0 0 truncated
unfolding tag_from units_in prims_in
empty_stream_2 = refl

empty_stream_3 : answer open_gate (hex (codes "AC")) ≡ refused_at 0 1 truncated
unfolding tag_from units_in prims_in
empty_stream_3 = refl

empty_stream_4 : answer open_gate (hex (codes "00")) ≡ refused_at 0 1 bad_header
unfolding tag_from units_in prims_in
empty_stream_4 = refl

empty_stream_5 : answer open_gate (hex (codes "ACED0006")) ≡ refused_at 0 4 bad_header
unfolding tag_from units_in prims_in
empty_stream_5 = refl

abc_null_ref : answer open_gate (hex (codes "ACED0005 740003616263 70 71007E0000")) ≡ accepted
unfolding tag_from units_in prims_in
abc_null_ref = refl

linked_pair_1 : answer open_gate linked_pair ≡ accepted
unfolding tag_from units_in prims_in
linked_pair_1 = refl

linked_pair_2 : answer (with_depth 2) linked_pair ≡ refused_at 63 64 depth_exceeded
unfolding tag_from units_in prims_in
linked_pair_2 = refl

linked_pair_3 : answer (with_refs 4) linked_pair ≡ refused_at 64 65 refs_exceeded
unfolding tag_from units_in prims_in
linked_pair_3 = refl

int_array_1 : answer open_gate (int_array_of (hex (codes "00000002 00000001 FFFFFFFF"))) ≡ accepted
unfolding tag_from units_in prims_in
int_array_1 = refl

int_array_2 : answer (with_array 1) (int_array_of (hex (codes "00000002 00000001 FFFFFFFF"))) ≡ refused_at 23 27 array_exceeded
unfolding tag_from units_in prims_in
int_array_2 = refl

int_array_4 : answer open_gate (int_array_of (hex (codes "00000000"))) ≡ accepted
unfolding tag_from units_in prims_in
int_array_4 = refl

enum_constant_1 : answer open_gate enum_constant ≡ accepted
unfolding tag_from units_in prims_in
enum_constant_1 = refl

enum_constant_2 : answer (rejecting_but (codes "java.lang.Enum")) enum_constant ≡ refused_at 6 9 class_rejected
unfolding tag_from units_in prims_in
enum_constant_2 = refl

proxy_1 : answer open_gate proxy ≡ accepted
unfolding tag_from units_in prims_in
proxy_1 = refl

proxy_2 : answer (rejecting (codes "I")) proxy ≡ refused_at 10 13 class_rejected
unfolding tag_from units_in prims_in
proxy_2 = refl

reset_epochs_1 : answer open_gate (hex (codes "ACED0005 74000161 79 74000162 71007E0000")) ≡ accepted
unfolding tag_from units_in prims_in
reset_epochs_1 = refl

reset_epochs_2 : answer open_gate (hex (codes "ACED0005 74000161 79 74000162 71007E0001")) ≡ refused_at 14 18 no_such_handle
unfolding tag_from units_in prims_in
reset_epochs_2 = refl

no_handle_yet_1 : answer open_gate (hex (codes "ACED0005 71007E0000")) ≡ refused_at 5 9 no_such_handle
unfolding tag_from units_in prims_in
no_handle_yet_1 = refl

no_handle_yet_2 : answer open_gate (hex (codes "ACED0005 71FFFFFFFF")) ≡ refused_at 5 9 no_such_handle
unfolding tag_from units_in prims_in
no_handle_yet_2 = refl

own_superclass_1 : answer open_gate (class_a (hex (codes "02 0000 78 71007E0000"))) ≡ refused_at 21 25 open_descriptor
unfolding tag_from units_in prims_in
own_superclass_1 = refl

own_superclass_2 : answer open_gate (class_a (hex (codes "02 0000 71007E0000 78 70"))) ≡ accepted
unfolding tag_from units_in prims_in
own_superclass_2 = refl

external_raw_1 : answer open_gate (hex (codes "ACED0005 73 72 0001 41 0000000000000001 04 0000 78 70")) ≡ refused_at 17 18 external_raw
unfolding tag_from units_in prims_in
external_raw_1 = refl

external_raw_2 : answer open_gate (hex (codes "ACED0005 76 72 0001 41 0000000000000001 04 0000 78 70")) ≡ accepted
unfolding tag_from units_in prims_in
external_raw_2 = refl

external_raw_3 : answer open_gate (hex (codes "ACED0005 73 72 0001 41 0000000000000001 00 0000 78 70")) ≡ refused_at 17 18 not_serializable
unfolding tag_from units_in prims_in
external_raw_3 = refl

exception_1 : answer open_gate (hex (codes "ACED0005 7B")) ≡ refused_at 4 5 exception_tag
unfolding tag_from units_in prims_in
exception_1 = refl

inner_reset_2 : answer open_gate (class_a (hex (codes "02 0000 79"))) ≡ refused_at 19 20 reset_inside
unfolding tag_from units_in prims_in
inner_reset_2 = refl

external_over_serial_1 : answer open_gate external_over_serial ≡ accepted
unfolding tag_from units_in prims_in
external_over_serial_1 = refl

odd_texts_1 : answer open_gate (hex (codes "ACED0005 72 0002 C181")) ≡ refused_at 5 8 bad_text
unfolding tag_from units_in prims_in
odd_texts_1 = refl

odd_texts_2 : answer open_gate (hex (codes "ACED0005 74 0003 EDA080")) ≡ accepted
unfolding tag_from units_in prims_in
odd_texts_2 = refl

linked_pair_tail_1 : answer open_gate (linked_pair ++ (0x78 ∷ [])) ≡ refused_at 69 70 bad_tag
unfolding tag_from units_in prims_in
linked_pair_tail_1 = refl

linked_pair_tail_2 : answer (with_bytes 68) linked_pair ≡ refused_at 65 69 bytes_exceeded
unfolding tag_from units_in prims_in
linked_pair_tail_2 = refl

blocks_1 : answer open_gate (hex (codes "ACED0005 7700")) ≡ accepted
unfolding tag_from units_in prims_in
blocks_1 = refl

blocks_2 : answer open_gate (hex (codes "ACED0005 77FF") ++ replicate 255 0) ≡ accepted
unfolding tag_from units_in prims_in
blocks_2 = refl

blocks_3 : answer open_gate (hex (codes "ACED0005 7A00000100") ++ replicate 256 0) ≡ accepted
unfolding tag_from units_in prims_in
blocks_3 = refl

blocks_4 : answer open_gate (hex (codes "ACED0005 7AFFFFFFFF")) ≡ refused_at 5 9 negative_length
unfolding tag_from units_in prims_in
blocks_4 = refl

array_list_1 : answer open_gate array_list ≡ accepted
unfolding tag_from units_in prims_in
array_list_1 = refl

array_list_3 : answer (rejecting (codes "java.util.ArrayList")) array_list ≡ refused_at 6 27 class_rejected
unfolding tag_from units_in prims_in
array_list_3 = refl

superclass_first_1 : answer open_gate superclass_first ≡ accepted
unfolding tag_from units_in prims_in
superclass_first_1 = refl

undecided_name_1 : answer open_gate (class_a (hex (codes "02 0000 78 70"))) ≡ accepted
unfolding tag_from units_in prims_in
undecided_name_1 = refl

undecided_name_2 : answer matching_none (class_a (hex (codes "02 0000 78 70"))) ≡ refused_at 5 8 class_unmatched
unfolding tag_from units_in prims_in
undecided_name_2 = refl

wrong_kinds_1 : answer open_gate (hex (codes "ACED0005 73 70")) ≡ refused_at 5 6 null_class
unfolding tag_from units_in prims_in
wrong_kinds_1 = refl

wrong_kinds_2 : answer open_gate (hex (codes "ACED0005 75 72 0001 41")) ≡ refused_at 6 9 wrong_class
unfolding tag_from units_in prims_in
wrong_kinds_2 = refl

wrong_kinds_3 : answer open_gate (hex (codes "ACED0005 75 7D")) ≡ refused_at 5 6 wrong_class
unfolding tag_from units_in prims_in
wrong_kinds_3 = refl

wrong_kinds_4 : answer open_gate (hex (codes "ACED0005 72 0002 5B56")) ≡ refused_at 5 9 bad_array_name
unfolding tag_from units_in prims_in
wrong_kinds_4 = refl

wrong_kinds_5 : answer open_gate (hex (codes "ACED0005 74000161 73 71007E0000")) ≡ refused_at 10 14 wrong_kind
unfolding tag_from units_in prims_in
wrong_kinds_5 = refl

descriptor_faults_1 : answer open_gate (class_a (hex (codes "06"))) ≡ refused_at 16 17 bad_flags
unfolding tag_from units_in prims_in
descriptor_faults_1 = refl

descriptor_faults_2 : answer open_gate (class_a (hex (codes "02 0001 56"))) ≡ refused_at 19 20 bad_type_code
unfolding tag_from units_in prims_in
descriptor_faults_2 = refl

descriptor_faults_3 : answer open_gate (class_a (hex (codes "02 0002 4C 0001 61 74 0001 4C 49"))) ≡ refused_at 27 28 field_order
unfolding tag_from units_in prims_in
descriptor_faults_3 = refl

descriptor_faults_4 : answer open_gate (class_a (hex (codes "02 FFFF"))) ≡ refused_at 17 19 negative_length
unfolding tag_from units_in prims_in
descriptor_faults_4 = refl

long_string_1 : answer open_gate (hex (codes "ACED0005 7C 0000000000000001 61")) ≡ accepted
unfolding tag_from units_in prims_in
long_string_1 = refl

long_string_2 : answer open_gate (hex (codes "ACED0005 7C FFFFFFFFFFFFFFFF")) ≡ refused_at 5 13 negative_length
unfolding tag_from units_in prims_in
long_string_2 = refl

tag_tie : answer open_gate (hex (codes "ACED0005 75 72 0002 5B56")) ≡ refused_at 6 10 bad_array_name
unfolding tag_from units_in prims_in
tag_tie = refl

object_tag_alone : answer open_gate (hex (codes "ACED0005 73")) ≡ refused_at 5 5 truncated
unfolding tag_from units_in prims_in
object_tag_alone = refl

superclass_not_serial : answer open_gate (hex (codes "ACED0005 73 72 0001 41 0000000000000001 02 0000 78 72 0001 42 0000000000000002 00")) ≡ refused_at 33 34 not_serializable
unfolding tag_from units_in prims_in
superclass_not_serial = refl

superclass_ref_not_serial : answer open_gate (hex (codes "ACED0005 72 0001 42 0000000000000001 0C 0000 78 70") ++ hex (codes "73 72 0001 41 0000000000000001 02 0000 78 71007E0000")) ≡ refused_at 39 43 not_serializable
unfolding tag_from units_in prims_in
superclass_ref_not_serial = refl

long_block_cut : answer open_gate (hex (codes "ACED0005 7A7FFFFFFF")) ≡ refused_at 9 9 truncated
unfolding tag_from units_in prims_in
long_block_cut = refl

int_array_huge_cut : answer open_gate (int_array_of (hex (codes "7FFFFFFF"))) ≡ refused_at 27 27 truncated
unfolding tag_from units_in prims_in
int_array_huge_cut = refl

long_string_cut : answer open_gate (hex (codes "ACED0005 7C 7FFFFFFFFFFFFFFF")) ≡ refused_at 5 13 truncated
unfolding tag_from units_in prims_in
long_string_cut = refl

-- rows of a reader under gates of its own: so many handles

handle_space_0 : answer (with_handles 0 65535) linked_pair ≡ refused_at 12 20 handle_space
unfolding tag_from units_in prims_in
handle_space_0 = refl

handle_space_1 : answer (with_handles 1 65535) linked_pair ≡ refused_at 38 39 handle_space
unfolding tag_from units_in prims_in
handle_space_1 = refl

handle_space_2 : answer (with_handles 2 65535) linked_pair ≡ refused_at 48 49 handle_space
unfolding tag_from units_in prims_in
handle_space_2 = refl

handle_space_3 : answer (with_handles 3 65535) linked_pair ≡ refused_at 55 59 handle_space
unfolding tag_from units_in prims_in
handle_space_3 = refl

handle_space_cut : answer (with_handles 0 65535) (take 20 linked_pair) ≡ refused_at 12 20 handle_space
unfolding tag_from units_in prims_in
handle_space_cut = refl

handle_space_enough_1 : answer (with_handles 4 65535) linked_pair ≡ accepted
unfolding tag_from units_in prims_in
handle_space_enough_1 = refl

handle_space_enough_2 : answer (with_handles 1 65535) (hex (codes "ACED0005 74000161 79 74000162 71007E0000")) ≡ accepted
unfolding tag_from units_in prims_in
handle_space_enough_2 = refl

handle_space_tie : answer (with_handles 2 1) linked_pair ≡ refused_at 48 49 depth_exceeded
unfolding tag_from units_in prims_in
handle_space_tie = refl

gate_rejects_b : answer (rejecting (codes "B")) external_over_serial ≡ refused_at 22 25 class_rejected
unfolding tag_from units_in prims_in
gate_rejects_b = refl

-- linked-pair, cut: at 4 and 64 it is a stream; else Truncated, with the cut as its end

linked_pair_cut_to_4 : answer open_gate (take 4 linked_pair) ≡ accepted
linked_pair_cut_to_4 = refl

linked_pair_cut_to_64 : answer open_gate (take 64 linked_pair) ≡ accepted
unfolding tag_from units_in prims_in
linked_pair_cut_to_64 = refl

linked_pair_cut_to_3 : answer open_gate (take 3 linked_pair) ≡ refused_at 0 3 truncated
linked_pair_cut_to_3 = refl

linked_pair_cut_to_10 : answer open_gate (take 10 linked_pair) ≡ refused_at 6 10 truncated
unfolding tag_from units_in
linked_pair_cut_to_10 = refl

linked_pair_cut_to_65 : answer open_gate (take 65 linked_pair) ≡ refused_at 65 65 truncated
unfolding tag_from units_in prims_in
linked_pair_cut_to_65 = refl

linked_pair_cut_to_68 : answer open_gate (take 68 linked_pair) ≡ refused_at 65 68 truncated
unfolding tag_from units_in prims_in
linked_pair_cut_to_68 = refl

abbrev is_cut : ℕ → Told → Bool
is_cut n accepted = false
is_cut n (refused_at at end truncated) = nat_eq end n
is_cut n (refused_at at end _) = false

-- of so many cuts from the first one on, that they are cut
abbrev are_cut : (count first : ℕ) → Bool
are_cut zero n = true
are_cut (suc k) n = is_cut n (answer open_gate (take n linked_pair)) && are_cut k (suc n)

linked_pair_cuts : (are_cut 4 0 && are_cut 59 5 && are_cut 4 65) ≡ true
unfolding tag_from units_in prims_in
linked_pair_cuts = refl
