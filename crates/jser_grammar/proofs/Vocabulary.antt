-- The words of the grammar, passed on from one place, so that a proof opens with a few lines.
pub use Rattle.jser_table.specs.Chains.{has_write_method, is_serializable, is_externalizable, has_block_data, is_enum, is_proxy_kind, is_array_kind, own_layer, is_serial_kind, all_serial}
pub use Rattle.jser_table.specs.Entries.{TableEntry, text_entry, other_entry, pending_entry, closed_entry, is_text, is_pending, is_closed, chain_of, chain_at}
pub use Rattle.jser_table.specs.Fits.{fit_of_object, fit_of_array, fit_of_enum, fit_of, does_fit, fits}
pub use Rattle.jser_table.specs.Names.{NameKind, plain_name, array_name, malformed_name, name_kind, layer_kind}
pub use Rattle.jser_table.specs.declared.layer.Layer.{Layer}
pub use Rattle.jser_prim.specs.Bytes.{big_bytes}
pub use Rattle.jser_prim.specs.ModifiedUtf8.{modified_utf8, IsUnits}
pub use Rattle.jser_grammar.specs.Codes.{PrimCode, byte_code, char_code, double_code, float_code, int_code, long_code, short_code, boolean_code, letter_of, size_of, prim_code_of, is_object_code, with_code, primitive_codes, one_more_value, object_count}
pub use Rattle.jser_grammar.specs.Trees.{TextTree, TextPlaceTree, new_text, back_text, FieldTree, PrimTree, ValueTree, null, back, string, descriptor, class_object, array, enum_constant, object, DescTree, plain, proxy, ClassPlaceTree, no_class, back_class, new_class, BodyTree, raw_body, value_body, ValueTrees, no_values, value_and, SectionTree, section, SectionTrees, no_sections, section_and, NotesTree, no_notes, annotation, ContentTree, block, reset, content, ContentTrees, no_contents, content_and, value_count}
pub use Rattle.jser_grammar.specs.TableAfter.{Entries, add, close, codes_of, plain_layer, proxy_layer, after_text_place, after_type, after_fields, after_value, after_desc, after_class, after_body, after_values, after_sections, after_notes, after_contents, chain_of_class, chain_of_desc, table_after}
pub use Rattle.jser_grammar.specs.Parts.{text_bound, IsText, is_malformed, IsClassName, AreClassNames, IsFlags, IsHandle, IsBack, IsBackToText, IsBackToClass, WellFormedText, WellFormedType, WellFormedFields, IsPrimOf, ArePrimsOf, ArePrims, IsBytes, block_bound, IsBlock, elements_of_body, elements_of_kind, elements_of_layer, elements_of, is_external_layer, is_external}
pub use Rattle.jser_grammar.specs.WellFormed.{WellFormedValue, WellFormedDesc, WellFormedClass, WellFormedSuperclass, WellFormedBody, WellFormedValues, WellFormedExternal, WellFormedSections, WellFormedNotesIf, WellFormedNotes, WellFormedContents, WellFormed}
