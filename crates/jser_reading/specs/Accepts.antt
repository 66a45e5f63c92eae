-- Which token a goal is read by, and which tokens the format takes there, clause by clause: which tag may stand
-- where, which handle, text and number (Java Object Serialization Specification, section 6.4.1).
use Rattle.std.specs.Prelude.{ℕ, zero, suc, ◌<◌, ◌≡◌, ◌^◌, ◌&&◌, not, Bool, true, false, IsTrue, if◌then◌else◌, List, [], ◌∷◌, length, is_some}
use Rattle.jser_table.specs.Entries.{chain_at}
use Rattle.jser_table.specs.Names.{name_kind}
use Rattle.jser_grammar.specs.Codes.{prim_code_of, is_object_code}
use Rattle.jser_grammar.specs.Parts.{IsText, IsClassName, IsFlags, IsBack, IsBackToText, IsBackToClass, ArePrimsOf, IsBytes, block_bound}
use Rattle.jser_reading.specs.Roles.{FitsOwner, FitsRole, superclass, NameFits, FlagsFit, ProxyFitsOwner}
use Rattle.jser_reading.specs.Moments.{Moment}
use Rattle.jser_reading.specs.Labels.{null_tag, reference_tag, class_desc_tag, string_tag, long_string_tag, proxy_desc_tag, StreamToken, header_token, tag_token, block_tag_token, end_tag_token, reset_tag_token, handle_token, suid_token, flags_token, field_count_token, interface_count_token, array_length_token, code_token, text_token, block_length_token, prims_token, bytes_token, Position, nowhere, header_at, top_at, annotation_at, value_at, text_place_at, class_place_at, superclass_place_at, back_handle_at, text_handle_at, class_handle_at, superclass_handle_at, string_at, class_name_at, field_name_at, interface_name_at, suid_at, field_count_at, interface_count_at, array_length_at, flags_at, type_code_at, block_length_at, raw_at, bytes_at, Label}
use Rattle.jser_reading.specs.Goals.{Part, raw_part, value_part, annotation_part, Goal, header_goal, top_goal, annotation_goal, back_handle_goal, text_place_goal, text_handle_goal, field_name_goal, string_goal, block_length_goal, block_goal, array_length_goal, parts_goal, class_goal, class_handle_goal, made_goal, superclass_goal, superclass_handle_goal, close_goal, class_name_goal, suid_goal, flags_goal, field_count_goal, fields_goal, interface_count_goal, interfaces_goal, State}

abbrev pub position_of_parts : List Part → Position
position_of_parts [] = nowhere
position_of_parts (raw_part c zero ∷ parts) = nowhere
position_of_parts (raw_part c (suc n) ∷ parts) = raw_at c (suc n)
position_of_parts (value_part ∷ parts) = value_at
position_of_parts (annotation_part ∷ parts) = nowhere

abbrev pub position_of : Goal → Position
position_of header_goal = header_at
position_of top_goal = top_at
position_of (annotation_goal d) = annotation_at
position_of (back_handle_goal d) = back_handle_at
position_of (text_place_goal d) = text_place_at
position_of (text_handle_goal d) = text_handle_at
position_of (field_name_goal d) = field_name_at
position_of (string_goal long d) = string_at long
position_of (block_length_goal long d) = block_length_at long
position_of (block_goal d zero) = nowhere
position_of (block_goal d (suc n)) = bytes_at (suc n)
position_of (array_length_goal elements d) = array_length_at
position_of (parts_goal d parts) = position_of_parts parts
position_of (class_goal owner d) = class_place_at owner
position_of (class_handle_goal owner d) = class_handle_at owner
position_of (made_goal owner d number) = nowhere
position_of (superclass_goal owner strict d number layer) = superclass_place_at owner strict
position_of (superclass_handle_goal owner strict d number layer) = superclass_handle_at owner strict
position_of (close_goal number parent layer) = nowhere
position_of (class_name_goal role d) = class_name_at role
position_of (suid_goal role d kind) = suid_at
position_of (flags_goal role d number kind) = flags_at role
position_of (field_count_goal role d number kind flags) = field_count_at
position_of (fields_goal role d number kind flags seen codes zero) = nowhere
position_of (fields_goal role d number kind flags seen codes (suc n)) = type_code_at seen
position_of (interface_count_goal role d number) = interface_count_at
position_of (interfaces_goal role d number zero) = nowhere
position_of (interfaces_goal role d number (suc n)) = interface_name_at

-- a value among the parts stands one deeper than what it is a part of
abbrev pub depth_of_parts : ℕ → List Part → ℕ
depth_of_parts d [] = d
depth_of_parts d (raw_part c n ∷ parts) = d
depth_of_parts d (value_part ∷ parts) = suc d
depth_of_parts d (annotation_part ∷ parts) = d

abbrev pub depth_of_goal : Goal → ℕ
depth_of_goal header_goal = 0
depth_of_goal top_goal = 1
depth_of_goal (annotation_goal d) = suc d
depth_of_goal (back_handle_goal d) = d
depth_of_goal (text_place_goal d) = d
depth_of_goal (text_handle_goal d) = d
depth_of_goal (field_name_goal d) = d
depth_of_goal (string_goal long d) = d
depth_of_goal (block_length_goal long d) = d
depth_of_goal (block_goal d n) = d
depth_of_goal (array_length_goal elements d) = d
depth_of_goal (parts_goal d parts) = depth_of_parts d parts
depth_of_goal (class_goal owner d) = d
depth_of_goal (class_handle_goal owner d) = d
depth_of_goal (made_goal owner d number) = d
depth_of_goal (superclass_goal owner strict d number layer) = d
depth_of_goal (superclass_handle_goal owner strict d number layer) = d
depth_of_goal (close_goal number parent layer) = 0
depth_of_goal (class_name_goal role d) = d
depth_of_goal (suid_goal role d kind) = d
depth_of_goal (flags_goal role d number kind) = d
depth_of_goal (field_count_goal role d number kind flags) = d
depth_of_goal (fields_goal role d number kind flags seen codes n) = d
depth_of_goal (interface_count_goal role d number) = d
depth_of_goal (interfaces_goal role d number n) = d

-- the label of the token that is read next
abbrev pub label_of : State → Label
label_of (m, []) = record { position = nowhere; depth = 0; moment = m }
label_of (m, goal ∷ goals) = record { position = position_of goal; depth = depth_of_goal goal; moment = m }

-- a type code: `[` or `L`, or a primitive with no object field before it
abbrev pub may_follow : Bool → ℕ → Bool
may_follow seen code = if is_object_code code then true else (is_some (prim_code_of code) && not seen)

-- the format takes this token there
abbrev pub AcceptsAt : Position → Moment → StreamToken → Type 0
AcceptsAt header_at m header_token = Unit {0}
-- any value, block data, and at the top a reset
AcceptsAt top_at m (tag_token tag) = Unit {0}
AcceptsAt top_at m (block_tag_token long) = Unit {0}
AcceptsAt top_at m reset_tag_token = Unit {0}
AcceptsAt annotation_at m (tag_token tag) = Unit {0}
AcceptsAt annotation_at m (block_tag_token long) = Unit {0}
AcceptsAt annotation_at m end_tag_token = Unit {0}
AcceptsAt value_at m (tag_token tag) = Unit {0}
-- a descriptor or a reference, and for a superclass null
AcceptsAt (class_place_at owner) m (tag_token reference_tag) = Unit {0}
AcceptsAt (class_place_at owner) m (tag_token class_desc_tag) = Unit {0}
AcceptsAt (class_place_at owner) m (tag_token proxy_desc_tag) = ProxyFitsOwner owner
AcceptsAt (superclass_place_at owner strict) m (tag_token null_tag) = Unit {0}
AcceptsAt (superclass_place_at owner strict) m (tag_token reference_tag) = Unit {0}
AcceptsAt (superclass_place_at owner strict) m (tag_token class_desc_tag) = Unit {0}
AcceptsAt (superclass_place_at owner strict) m (tag_token proxy_desc_tag) = Unit {0}
-- a string or a reference
AcceptsAt text_place_at m (tag_token reference_tag) = Unit {0}
AcceptsAt text_place_at m (tag_token string_tag) = Unit {0}
AcceptsAt text_place_at m (tag_token long_string_tag) = Unit {0}
-- the handle of a reference
AcceptsAt back_handle_at m (handle_token n) = IsBack m.table n
AcceptsAt text_handle_at m (handle_token n) = IsBackToText m.table n
AcceptsAt (class_handle_at owner) m (handle_token n) = IsBackToClass m.table n × FitsOwner owner (chain_at m.table n)
AcceptsAt (superclass_handle_at owner strict) m (handle_token n) =
    IsBackToClass m.table n × FitsRole (superclass owner strict) (chain_at m.table n)
-- texts
AcceptsAt (string_at false) m (text_token false units) = IsText false units
AcceptsAt (string_at true) m (text_token true units) = IsText true units
AcceptsAt (class_name_at role) m (text_token false units) = IsClassName units × NameFits role (name_kind units)
AcceptsAt field_name_at m (text_token false units) = IsText false units
AcceptsAt interface_name_at m (text_token false units) = IsClassName units
-- numbers
AcceptsAt suid_at m (suid_token n) = n < 2 ^ 64
AcceptsAt (flags_at role) m (flags_token n) = IsFlags n × FlagsFit role n
AcceptsAt field_count_at m (field_count_token n) = n < 2 ^ 15
AcceptsAt interface_count_at m (interface_count_token n) = n < 2 ^ 31
AcceptsAt array_length_at m (array_length_token n) = n < 2 ^ 31
AcceptsAt (type_code_at seen) m (code_token n) = IsTrue (may_follow seen n)
AcceptsAt (block_length_at false) m (block_length_token false n) = n < block_bound false
AcceptsAt (block_length_at true) m (block_length_token true n) = n < block_bound true
-- raw values and bytes, never none
AcceptsAt (raw_at c (suc n)) m (prims_token ps) = (length ps ≡ suc n) × ArePrimsOf c ps
AcceptsAt (bytes_at (suc n)) m (bytes_token bytes) = IsBytes bytes × (length bytes ≡ suc n)
-- and nothing else
AcceptsAt _ m _ = ⊥

abbrev pub Accepts : Label → StreamToken → Type 0
Accepts label token = AcceptsAt label.position label.moment token
