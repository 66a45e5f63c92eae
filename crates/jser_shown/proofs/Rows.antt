-- Worked rows: texts of show and list, nodes and owners, by computation. The texts are those of the specification, and
-- follow from its table where it prints none.
use Rattle.std.proofs.Common.{◌≡◌, List, [], ◌∷◌, refl, codes, Some, None}
use Rattle.std.specs.Fmt.{digits}
use Rattle.hex.specs.Hex.{encode_with}
use Rattle.std.specs.Prelude.{ℕ, if◌then◌else◌, false, true}
use Rattle.std.specs.Str.{bytes_eq}
use Rattle.jser_grammar.specs.Trees.{PrimTree, string, class_object, array, object, plain, ClassPlaceTree, no_class, new_class, value_body, value_and, no_values, section, section_and, no_sections, no_notes, back, null, block, content, ContentTrees, no_contents, content_and}
use Rattle.jser_grammar.specs.Codes.{PrimCode, byte_code, char_code, double_code, float_code, int_code, long_code, short_code, boolean_code}
use Rattle.jser_grammar.proofs.Rows.{field_of, linked_pair, array_list, reset_epochs, int_array, external_over_serial, enum_constant_row, proxy_row}
use Rattle.jser_prim.specs.ModifiedUtf8.{unit_spelling}
use Rattle.jser_decimal.specs.Floats.{double_of, single_of}
use Rattle.jser_decimal.specs.Shortest.{place_from}
use Rattle.jser_shown.specs.Floats.{float_text}
use Rattle.jser_shown.specs.Shown.{shown}
use Rattle.jser_shown.specs.Listed.{listed}
use Rattle.jser_shown.specs.Nodes.{text_node, plain_desc_node, object_node, nodes_of}
use Rattle.jser_shown.specs.Owners.{owner_node, owners_of}

linked_pair_shown : shown false linked_pair ≡ codes "stream version 5\nobject #0.7e0002\n  class desc #0.7e0000 \"List\" suid 69c88a154016ae68 flags 02\n    field I \"value\"\n    field L \"next\" type text #0.7e0001 \"LList;\"\n    super null\n  data \"List\"\n    \"value\" = 00000011\n    \"next\" = object #0.7e0003\n      class ref #0.7e0000\n      data \"List\"\n        \"value\" = 00000013\n        \"next\" = null\nref #0.7e0003\n"
unfolding digits encode_with
linked_pair_shown = refl

array_list_shown : shown false array_list ≡ codes "stream version 5\nobject #0.7e0001\n  class desc #0.7e0000 \"java.util.ArrayList\" suid 7881d21d99c7619d flags 03\n    field I \"size\"\n    super null\n  data \"java.util.ArrayList\"\n    \"size\" = 00000001\n    note block 4: 00000001\n    note text #0.7e0002 \"a\"\n"
unfolding digits encode_with
array_list_shown = refl

int_array_shown : shown false int_array ≡ codes "stream version 5\narray #0.7e0001 length 2\n  class desc #0.7e0000 \"[I\" suid 4dba602676eab2a5 flags 02\n    super null\n  [0] 00000001\n  [1] ffffffff\n"
unfolding digits encode_with
int_array_shown = refl

reset_epochs_shown : shown false reset_epochs ≡ codes "stream version 5\ntext #0.7e0000 \"a\"\nreset\ntext #1.7e0000 \"b\"\nref #1.7e0000\n"
unfolding digits encode_with
reset_epochs_shown = refl

external_over_serial_shown : shown false external_over_serial ≡ codes "stream version 5\nobject #0.7e0002\n  class desc #0.7e0000 \"A\" suid 0000000000000001 flags 0c\n    super desc #0.7e0001 \"B\" suid 0000000000000002 flags 02\n      field I \"n\"\n      super null\n  external \"A\"\n    note block 1: 05\n"
unfolding digits encode_with
external_over_serial_shown = refl

enum_constant_shown : shown false enum_constant_row ≡ codes "stream version 5\nenum #0.7e0002\n  class desc #0.7e0000 \"E\" suid 0000000000000000 flags 12\n    super desc #0.7e0001 \"java.lang.Enum\" suid 0000000000000000 flags 12\n      super null\n  name text #0.7e0003 \"A\"\n"
unfolding digits encode_with
enum_constant_shown = refl

proxy_shown : shown false proxy_row ≡ codes "stream version 5\nobject #0.7e0003\n  class proxy #0.7e0000\n    interface \"I\"\n    super desc #0.7e0001 \"java.lang.reflect.Proxy\" suid e127da20cc1043cb flags 02\n      field L \"h\" type text #0.7e0002 \"Ljava/lang/reflect/InvocationHandler;\"\n      super null\n  data \"java.lang.reflect.Proxy\"\n    \"h\" = null\n  data proxy\n"
unfolding digits encode_with
proxy_shown = refl

linked_pair_nodes : nodes_of linked_pair ≡ (
    record { kind = plain_desc_node; place = 5; units = None }
    ∷ record { kind = text_node; place = 38; units = Some (codes "LList;") }
    ∷ record { kind = object_node; place = 4; units = None }
    ∷ record { kind = object_node; place = 53; units = None } ∷ []) ∷ []
unfolding unit_spelling
linked_pair_nodes = refl

reset_epochs_nodes : nodes_of reset_epochs ≡
    (record { kind = text_node; place = 4; units = Some (codes "a") } ∷ [])
    ∷ (record { kind = text_node; place = 9; units = Some (codes "b") } ∷ []) ∷ []
unfolding unit_spelling
reset_epochs_nodes = refl

linked_pair_owners : owners_of linked_pair ≡ owner_node 2 0 ∷ owner_node 3 0 ∷ []
linked_pair_owners = refl

int_array_owners : owners_of int_array ≡ owner_node 1 2 ∷ []
int_array_owners = refl

-- a class without fields
abbrev bare_class : List ℕ → ℕ → ContentTrees → ClassPlaceTree
bare_class name flags notes = new_class (plain name 0 flags [] notes no_class)

-- the words that the rows above have not: escapes in a quoted text, blocks at the top, an empty one, a class object, a
-- note of a descriptor, elements that are values
abbrev other_words : ContentTrees
other_words =
    content_and (content (string (record { long = true; units = 0x22 ∷ 0x5C ∷ 0x0A ∷ 0x20 ∷ 0x7E ∷ 0x7F ∷ 0xE9 ∷ 0xD83D ∷ [] })))
    (content_and (block false [])
    (content_and (block true (0x0A ∷ 0xFF ∷ []))
    (content_and (content (class_object (bare_class (codes "A") 0 (content_and (content null) no_contents))))
    (content_and (content (array (bare_class (codes "[LA;") 2 no_contents) (value_body (value_and (back 2) (value_and null no_values)))))
    no_contents))))

other_words_shown : shown false other_words ≡ codes "stream version 5\nlongtext #0.7e0000 \"\\\"\\\\\\u000a ~\\u007f\\u00e9\\ud83d\"\nblock 0:\nlongblock 2: 0aff\nclassobject #0.7e0002\n  class desc #0.7e0001 \"A\" suid 0000000000000000 flags 00\n    note null\n    super null\narray #0.7e0004 length 2\n  class desc #0.7e0003 \"[LA;\" suid 0000000000000000 flags 02\n    super null\n  [0] ref #0.7e0002\n  [1] null\n"
unfolding digits encode_with
other_words_shown = refl

-- Raw values with what they mean: the least number of each type or the greatest, a unit beyond ASCII, a byte that is no
-- boolean.
linked_pair_with_values : shown true linked_pair ≡ codes "stream version 5\nobject #0.7e0002\n  class desc #0.7e0000 \"List\" suid 69c88a154016ae68 flags 02\n    field I \"value\"\n    field L \"next\" type text #0.7e0001 \"LList;\"\n    super null\n  data \"List\"\n    \"value\" = 00000011 (17)\n    \"next\" = object #0.7e0003\n      class ref #0.7e0000\n      data \"List\"\n        \"value\" = 00000013 (19)\n        \"next\" = null\nref #0.7e0003\n"
unfolding digits encode_with
linked_pair_with_values = refl

int_array_with_values : shown true int_array ≡ codes "stream version 5\narray #0.7e0001 length 2\n  class desc #0.7e0000 \"[I\" suid 4dba602676eab2a5 flags 02\n    super null\n  [0] 00000001 (1)\n  [1] ffffffff (-1)\n"
unfolding digits encode_with
int_array_with_values = refl

abbrev value_of : PrimCode → ℕ → PrimTree
value_of code bits = record { code = code; bits = bits }

abbrev every_kind : ContentTrees
every_kind =
    content_and (content (object
    (new_class (plain (codes "V") 1 2
    (field_of 0x42 (codes "b") ∷ field_of 0x43 (codes "c") ∷ field_of 0x44 (codes "d") ∷ field_of 0x46 (codes "f")
    ∷ field_of 0x49 (codes "i") ∷ field_of 0x4A (codes "j") ∷ field_of 0x53 (codes "s") ∷ field_of 0x5A (codes "y")
    ∷ field_of 0x5A (codes "z") ∷ []) no_contents no_class))
    (section_and (section
    (value_of byte_code 0x80 ∷ value_of char_code 0xE9 ∷ value_of double_code 0x3FB999999999999A
    ∷ value_of float_code 0xC61C4000 ∷ value_of int_code 0x80000000 ∷ value_of long_code 0x7FFFFFFFFFFFFFFF
    ∷ value_of short_code 0xFFFF ∷ value_of boolean_code 2 ∷ value_of boolean_code 1 ∷ [])
    no_values no_notes) no_sections)))
    no_contents

every_kind_with_values : shown true every_kind ≡ codes "stream version 5\nobject #0.7e0001\n  class desc #0.7e0000 \"V\" suid 0000000000000001 flags 02\n    field B \"b\"\n    field C \"c\"\n    field D \"d\"\n    field F \"f\"\n    field I \"i\"\n    field J \"j\"\n    field S \"s\"\n    field Z \"y\"\n    field Z \"z\"\n    super null\n  data \"V\"\n    \"b\" = 80 (-128)\n    \"c\" = 00e9 (\"\\u00e9\")\n    \"d\" = 3fb999999999999a (0.1)\n    \"f\" = c61c4000 (-10000.0)\n    \"i\" = 80000000 (-2147483648)\n    \"j\" = 7fffffffffffffff (9223372036854775807)\n    \"s\" = ffff (-1)\n    \"y\" = 02\n    \"z\" = 01 (true)\n"
unfolding digits encode_with place_from
every_kind_with_values = refl

-- floats at the edges, as the documentation of Java's classes Double and Float writes them
greatest_double : float_text (double_of 0x7FEFFFFFFFFFFFFF) ≡ codes "1.7976931348623157E308"
unfolding digits place_from
greatest_double = refl

least_double : float_text (double_of 1) ≡ codes "4.9E-324"
unfolding digits place_from
least_double = refl

least_normal_double : float_text (double_of 0x0010000000000000) ≡ codes "2.2250738585072014E-308"
unfolding digits place_from
least_normal_double = refl

greatest_float : float_text (single_of 0x7F7FFFFF) ≡ codes "3.4028235E38"
unfolding digits place_from
greatest_float = refl

least_float : float_text (single_of 1) ≡ codes "1.4E-45"
unfolding digits place_from
least_float = refl

zero_below_zero : float_text (double_of 0x8000000000000000) ≡ codes "-0.0"
zero_below_zero = refl

no_number : float_text (double_of 0xFFF8000000000001) ≡ codes "NaN"
no_number = refl

least_infinity : float_text (double_of 0xFFF0000000000000) ≡ codes "-Infinity"
least_infinity = refl

linked_pair_listed : listed (λ name. codes "undecided") linked_pair ≡ codes "1 undecided \"List\"\n"
unfolding digits
linked_pair_listed = refl

enum_constant_listed : listed (λ name. if bytes_eq name (codes "E") then codes "rejected:1" else codes "allowed:0") enum_constant_row
    ≡ codes "1 rejected:1 \"E\"\n1 allowed:0 \"java.lang.Enum\"\n"
unfolding digits
enum_constant_listed = refl

int_array_listed : listed (λ name. codes "noclass") int_array ≡ codes "1 noclass \"[I\"\n"
unfolding digits
int_array_listed = refl

-- a stream without checked names prints nothing
reset_epochs_listed : listed (λ name. codes "undecided") reset_epochs ≡ []
reset_epochs_listed = refl

-- a name that stands again
abbrev class_again : ContentTrees
class_again =
    content_and (content (class_object (bare_class (codes "A") 0 no_contents)))
    (content_and (content (class_object (bare_class (codes "B") 0 no_contents)))
    (content_and (content (class_object (bare_class (codes "A") 0 no_contents))) no_contents))

class_again_listed : listed (λ name. codes "undecided") class_again ≡ codes "2 undecided \"A\"\n1 undecided \"B\"\n"
unfolding digits
class_again_listed = refl
