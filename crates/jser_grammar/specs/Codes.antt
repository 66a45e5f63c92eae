-- Type codes stand with the classes whose fields they tell, in the table of handles.
pub use Rattle.jser_table.specs.Codes.{PrimCode, byte_code, char_code, double_code, float_code, int_code, long_code, short_code, boolean_code, letter_of, size_of, prim_code_of, is_object_code, with_code, primitive_codes, one_more_value, object_count}
