-- The words of the grammar and the machine, passed on from one place, so that a proof opens with a few lines.
pub use Rattle.jser_table.specs.Chains.{has_write_method, is_serializable, is_externalizable, has_block_data, is_enum, is_proxy_kind, is_array_kind, own_layer, is_serial_kind, all_serial}
pub use Rattle.jser_table.specs.Entries.{TableEntry, text_entry, other_entry, pending_entry, closed_entry, is_text, is_pending, is_closed, chain_of, chain_at}
pub use Rattle.jser_table.specs.Fits.{fit_of_object, fit_of_array, fit_of_enum, fit_of, does_fit, fits}
pub use Rattle.jser_table.specs.Names.{NameKind, plain_name, array_name, malformed_name, name_kind, layer_kind}
pub use Rattle.jser_table.specs.declared.layer.Layer.{Layer}
pub use Rattle.jser_prim.specs.Bytes.{big_bytes}
pub use Rattle.jser_prim.specs.ModifiedUtf8.{modified_utf8, IsUnits}
pub use Rattle.jser_grammar.specs.Codes.{PrimCode, byte_code, char_code, double_code, float_code, int_code, long_code, short_code, boolean_code, letter_of, size_of, prim_code_of, is_object_code, with_code, primitive_codes, one_more_value, object_count}
pub use Rattle.jser_grammar.specs.Trees.{TextTree, TextPlaceTree, new_text, back_text, FieldTree, PrimTree, ValueTree, null, back, string, descriptor, class_object, array, enum_constant, object, DescTree, plain, proxy, ClassPlaceTree, no_class, back_class, new_class, BodyTree, raw_body, value_body, ValueTrees, no_values, value_and, SectionTree, section, SectionTrees, no_sections, section_and, NotesTree, no_notes, annotation, ContentTree, block, reset, content, ContentTrees, no_contents, content_and, value_count}
pub use Rattle.jser_grammar.specs.TableAfter.{Entries, add, close, codes_of, plain_layer, proxy_layer, after_text_place, after_type, after_fields, after_value, after_desc, after_class, after_body, after_values, after_sections, after_notes, after_contents, chain_of_class, chain_of_desc, table_after}
pub use Rattle.jser_grammar.specs.Parts.{text_bound, IsText, is_malformed, IsClassName, AreClassNames, IsFlags, IsHandle, IsBack, IsBackToText, IsBackToClass, WellFormedText, WellFormedType, WellFormedFields, IsPrimOf, ArePrimsOf, ArePrims, IsBytes, block_bound, IsBlock, elements_of_body, elements_of_kind, elements_of_layer, elements_of, is_external_layer, is_external}
pub use Rattle.jser_grammar.specs.WellFormed.{WellFormedValue, WellFormedDesc, WellFormedClass, WellFormedSuperclass, WellFormedBody, WellFormedValues, WellFormedExternal, WellFormedSections, WellFormedNotesIf, WellFormedNotes, WellFormedContents, WellFormed}
pub use Rattle.jser_reading.specs.Roles.{Owner, object_owner, array_owner, enum_owner, class_owner, ChainOwner, Role, own_class, superclass, owner_of, is_strict_above, FitsOwner, FitsRole, NameFitsOwner, NameFits, FlagsFitOwner, FlagsFit, ProxyFitsOwner, ProxyFits}
pub use Rattle.jser_reading.specs.Moments.{Moment, beginning, tick, assign, closing, emptied, next_number, places_value, places_desc, places_class, places_body, places_values, places_sections, places_notes, places_contents, past_text, past_type, past_fields, past_value, past_desc, past_class, past_body, past_values, past_sections, past_notes, past_contents}
pub use Rattle.jser_reading.specs.Labels.{Tag, null_tag, reference_tag, class_desc_tag, object_tag, string_tag, array_tag, class_tag, long_string_tag, proxy_desc_tag, enum_tag, StreamToken, header_token, tag_token, block_tag_token, end_tag_token, reset_tag_token, handle_token, suid_token, flags_token, field_count_token, interface_count_token, array_length_token, code_token, text_token, block_length_token, prims_token, bytes_token, Position, nowhere, header_at, top_at, annotation_at, value_at, text_place_at, class_place_at, superclass_place_at, back_handle_at, text_handle_at, class_handle_at, superclass_handle_at, string_at, class_name_at, field_name_at, interface_name_at, suid_at, field_count_at, interface_count_at, array_length_at, flags_at, type_code_at, block_length_at, raw_at, bytes_at, Label, Piece, piece, at}
pub use Rattle.jser_reading.specs.Tokens.{tag_of_string, tag_of_desc, tag_of, cut_text_place, cut_type, cut_fields, cut_interfaces, cut_bytes, cut_raw, cut_prims, cut_value, cut_desc, cut_class, cut_superclass, cut_body, cut_values, cut_external, cut_sections, cut_notes, cut_annotation, cut_top, tokens_of}
pub use Rattle.jser_reading.specs.Goals.{Part, raw_part, value_part, annotation_part, Goal, header_goal, top_goal, annotation_goal, back_handle_goal, text_place_goal, text_handle_goal, field_name_goal, string_goal, block_length_goal, block_goal, array_length_goal, parts_goal, class_goal, class_handle_goal, made_goal, superclass_goal, superclass_handle_goal, close_goal, class_name_goal, suid_goal, flags_goal, field_count_goal, fields_goal, interface_count_goal, interfaces_goal, State, prim_parts, value_parts, annotation_if, section_parts, object_parts, body_parts, in_order, read_layer, ending, settle_parts, settle_block, settle_fields, settle_interfaces, settle, settled}
pub use Rattle.jser_reading.specs.Accepts.{position_of_parts, position_of, depth_of_parts, depth_of_goal, label_of, may_follow, AcceptsAt, Accepts}
pub use Rattle.jser_reading.specs.Machine.{open_proxy, begin, type_goals, advance_at, advance, begin_state, IsDone, Runs, left, Reads}
