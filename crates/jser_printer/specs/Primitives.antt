-- Primitive types, as contracts see them.
use Rattle.std.specs.Prelude.{Option}
use Rattle.std.specs.Option.{option_map}
use Rattle.jser_grammar.specs.Codes.{PrimCode, byte_code, char_code, double_code, float_code, int_code, long_code, short_code, boolean_code}
use Rattle.jser_printer.specs.declared.primitive.Primitive.{Primitive}
use Rattle.jser_printer.specs.declared.primitive.Primitive.TheVariants as primitive

abbrev pub view_primitive : Primitive → PrimCode
view_primitive primitive.Byte = byte_code
view_primitive primitive.Char = char_code
view_primitive primitive.Double = double_code
view_primitive primitive.Float = float_code
view_primitive primitive.Int = int_code
view_primitive primitive.Long = long_code
view_primitive primitive.Short = short_code
view_primitive primitive.Boolean = boolean_code

-- the type of the elements of an array, where it is primitive
abbrev pub view_elements : Option Primitive → Option PrimCode
view_elements elements = option_map view_primitive elements
