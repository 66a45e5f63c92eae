-- Streams worked by computation: each list obeys the format, and these are its bytes and counts. The bytes are
-- those that a Java writer makes of such objects.
use Rattle.std.proofs.Common.{◌≡◌, ℕ, false, List, [], ◌∷◌, Some, None, refl, lit<, codes}
use Rattle.jser_prim.specs.ModifiedUtf8.{unit_spelling}
use Rattle.jser_grammar.specs.Codes.{byte_code, int_code}
use Rattle.jser_grammar.specs.Trees.{TextTree, new_text, FieldTree, PrimTree, array, raw_body, null, back, string, enum_constant, object, DescTree, plain, proxy, no_class, back_class, new_class, no_values, value_and, section, no_sections, section_and, no_notes, annotation, block, reset, content, ContentTrees, no_contents, content_and}
use Rattle.jser_grammar.specs.Spelling.{spelling}
use Rattle.jser_grammar.specs.WellFormed.{WellFormed}
use Rattle.jser_grammar.specs.Counts.{refs_of, depth_of, epoch_handles, content_count}

abbrev pub int_value : ℕ → PrimTree
int_value n = record { code = int_code; bits = n }

abbrev pub byte_value : ℕ → PrimTree
byte_value n = record { code = byte_code; bits = n }

abbrev pub short_text : List ℕ → TextTree
short_text units = record { long = false; units = units }

-- a field of a primitive type, and one of a class
abbrev pub field_of : ℕ → List ℕ → FieldTree
field_of code name = record { code = code; name = name; text = None }

abbrev object_field_of : List ℕ → List ℕ → FieldTree
object_field_of name type = record { code = 0x4C; name = name; text = Some (new_text (short_text type)) }

abbrev list_class : DescTree
list_class =
    plain (codes "List") 0x69C88A154016AE68 2
    (field_of 0x49 (codes "value") ∷ object_field_of (codes "next") (codes "LList;") ∷ []) no_contents no_class

-- two linked List objects, and a reference to the second
abbrev pub linked_pair : ContentTrees
linked_pair =
    content_and (content (object (new_class list_class)
    (section_and (section (int_value 0x11 ∷ [])
    (value_and (object (back_class 0)
    (section_and (section (int_value 0x13 ∷ [])
    (value_and null no_values) no_notes) no_sections)) no_values) no_notes) no_sections)))
    (content_and (content (back 3)) no_contents)

linked_pair_is_right : WellFormed linked_pair
unfolding unit_spelling
linked_pair_is_right = (
  (
    (
      ((refl, lit< tt), refl),
      lit< tt,
      (lit< tt, refl),
      lit< tt,
      ((refl, lit< tt), (refl, refl), ((refl, lit< tt), (refl, (refl, lit< tt)), tt)),
      tt,
      tt,
    ),
    refl,
    (
      ((refl, lit< tt), tt),
      refl,
      (((refl, lit< tt), refl, (((refl, lit< tt), tt), refl, (tt, tt), refl, tt)), tt),
      refl,
      tt,
    ),
  ),
  ((lit< tt, lit< tt), tt),
)

linked_pair_bytes : spelling linked_pair ≡ 0xAC ∷ 0xED ∷ 0x00 ∷ 0x05 ∷ 0x73 ∷ 0x72 ∷ 0x00 ∷ 0x04 ∷ 0x4C ∷ 0x69 ∷ 0x73 ∷ 0x74 ∷ 0x69 ∷ 0xC8 ∷ 0x8A ∷ 0x15 ∷ 0x40 ∷ 0x16 ∷ 0xAE ∷ 0x68
    ∷ 0x02 ∷ 0x00 ∷ 0x02 ∷ 0x49 ∷ 0x00 ∷ 0x05 ∷ 0x76 ∷ 0x61 ∷ 0x6C ∷ 0x75 ∷ 0x65 ∷ 0x4C ∷ 0x00 ∷ 0x04 ∷ 0x6E ∷ 0x65 ∷ 0x78 ∷ 0x74 ∷ 0x74 ∷ 0x00
    ∷ 0x06 ∷ 0x4C ∷ 0x4C ∷ 0x69 ∷ 0x73 ∷ 0x74 ∷ 0x3B ∷ 0x78 ∷ 0x70 ∷ 0x00 ∷ 0x00 ∷ 0x00 ∷ 0x11 ∷ 0x73 ∷ 0x71 ∷ 0x00 ∷ 0x7E ∷ 0x00 ∷ 0x00 ∷ 0x00
    ∷ 0x00 ∷ 0x00 ∷ 0x13 ∷ 0x70 ∷ 0x71 ∷ 0x00 ∷ 0x7E ∷ 0x00 ∷ 0x03 ∷ []
unfolding unit_spelling
linked_pair_bytes = refl

linked_pair_counts : (content_count linked_pair ≡ 2) × (refs_of linked_pair ≡ 5) × (depth_of linked_pair ≡ 3)
    × (epoch_handles linked_pair ≡ 4 ∷ [])
linked_pair_counts = (refl, refl, refl, refl)

-- an externalizable class over a serializable one: one section, of notes alone
abbrev pub external_over_serial : ContentTrees
external_over_serial =
    content_and (content (object
    (new_class (plain (codes "A") 1 0x0C [] no_contents
    (new_class (plain (codes "B") 2 2 (field_of 0x49 (codes "n") ∷ []) no_contents no_class))))
    (section_and (section [] no_values (annotation (content_and (block false (5 ∷ [])) no_contents))) no_sections)))
    no_contents

external_over_serial_is_right : WellFormed external_over_serial
unfolding unit_spelling
external_over_serial_is_right = (
  (
    (
      ((refl, lit< tt), refl),
      lit< tt,
      (lit< tt, refl),
      lit< tt,
      tt,
      tt,
      (((refl, lit< tt), refl), lit< tt, (lit< tt, refl), lit< tt, ((refl, lit< tt), (refl, refl), tt), tt, tt),
    ),
    refl,
    ((refl, lit< tt), tt),
  ),
  tt,
)

external_over_serial_bytes : spelling external_over_serial ≡ 0xAC ∷ 0xED ∷ 0x00 ∷ 0x05 ∷ 0x73 ∷ 0x72 ∷ 0x00 ∷ 0x01 ∷ 0x41 ∷ 0x00 ∷ 0x00 ∷ 0x00 ∷ 0x00 ∷ 0x00 ∷ 0x00 ∷ 0x00 ∷ 0x01 ∷ 0x0C ∷ 0x00 ∷ 0x00
    ∷ 0x78 ∷ 0x72 ∷ 0x00 ∷ 0x01 ∷ 0x42 ∷ 0x00 ∷ 0x00 ∷ 0x00 ∷ 0x00 ∷ 0x00 ∷ 0x00 ∷ 0x00 ∷ 0x02 ∷ 0x02 ∷ 0x00 ∷ 0x01 ∷ 0x49 ∷ 0x00 ∷ 0x01 ∷ 0x6E
    ∷ 0x78 ∷ 0x70 ∷ 0x77 ∷ 0x01 ∷ 0x05 ∷ 0x78 ∷ []
unfolding unit_spelling
external_over_serial_bytes = refl

external_over_serial_counts : (content_count external_over_serial ≡ 1) × (refs_of external_over_serial ≡ 3)
    × (depth_of external_over_serial ≡ 3) × (epoch_handles external_over_serial ≡ 3 ∷ [])
external_over_serial_counts = (refl, refl, refl, refl)

-- superclass data first
abbrev pub superclass_first : ContentTrees
superclass_first =
    content_and (content (object
    (new_class (plain (codes "B") 2 2 (field_of 0x49 (codes "i") ∷ []) no_contents
    (new_class (plain (codes "A") 1 3 (field_of 0x42 (codes "b") ∷ []) no_contents no_class))))
    (section_and (section (byte_value 7 ∷ []) no_values (annotation no_contents))
    (section_and (section (int_value 9 ∷ []) no_values no_notes) no_sections))))
    no_contents

superclass_first_is_right : WellFormed superclass_first
unfolding unit_spelling
superclass_first_is_right = (
  (
    (
      ((refl, lit< tt), refl),
      lit< tt,
      (lit< tt, refl),
      lit< tt,
      ((refl, lit< tt), (refl, refl), tt),
      tt,
      (((refl, lit< tt), refl), lit< tt, (lit< tt, refl), lit< tt, ((refl, lit< tt), (refl, refl), tt), tt, tt),
    ),
    refl,
    (((refl, lit< tt), tt), refl, tt, (refl, tt), (((refl, lit< tt), tt), refl, tt, refl, tt)),
  ),
  tt,
)

superclass_first_bytes : spelling superclass_first ≡ 0xAC ∷ 0xED ∷ 0x00 ∷ 0x05 ∷ 0x73 ∷ 0x72 ∷ 0x00 ∷ 0x01 ∷ 0x42 ∷ 0x00 ∷ 0x00 ∷ 0x00 ∷ 0x00 ∷ 0x00 ∷ 0x00 ∷ 0x00 ∷ 0x02 ∷ 0x02 ∷ 0x00 ∷ 0x01
    ∷ 0x49 ∷ 0x00 ∷ 0x01 ∷ 0x69 ∷ 0x78 ∷ 0x72 ∷ 0x00 ∷ 0x01 ∷ 0x41 ∷ 0x00 ∷ 0x00 ∷ 0x00 ∷ 0x00 ∷ 0x00 ∷ 0x00 ∷ 0x00 ∷ 0x01 ∷ 0x03 ∷ 0x00 ∷ 0x01
    ∷ 0x42 ∷ 0x00 ∷ 0x01 ∷ 0x62 ∷ 0x78 ∷ 0x70 ∷ 0x07 ∷ 0x78 ∷ 0x00 ∷ 0x00 ∷ 0x00 ∷ 0x09 ∷ []
unfolding unit_spelling
superclass_first_bytes = refl

superclass_first_counts : (content_count superclass_first ≡ 1) × (refs_of superclass_first ≡ 3)
    × (depth_of superclass_first ≡ 3) × (epoch_handles superclass_first ≡ 3 ∷ [])
superclass_first_counts = (refl, refl, refl, refl)

-- an enum constant
abbrev pub enum_constant_row : ContentTrees
enum_constant_row =
    content_and (content (enum_constant
    (new_class (plain (codes "E") 0 0x12 [] no_contents
    (new_class (plain (codes "java.lang.Enum") 0 0x12 [] no_contents no_class))))
    (new_text (short_text (codes "A")))))
    no_contents

enum_constant_row_is_right : WellFormed enum_constant_row
unfolding unit_spelling
enum_constant_row_is_right = (
  (
    (
      ((refl, lit< tt), refl),
      lit< tt,
      (lit< tt, refl),
      lit< tt,
      tt,
      tt,
      (((refl, lit< tt), refl), lit< tt, (lit< tt, refl), lit< tt, tt, tt, tt),
    ),
    refl,
    (refl, lit< tt),
  ),
  tt,
)

enum_constant_row_bytes : spelling enum_constant_row ≡ 0xAC ∷ 0xED ∷ 0x00 ∷ 0x05 ∷ 0x7E ∷ 0x72 ∷ 0x00 ∷ 0x01 ∷ 0x45 ∷ 0x00 ∷ 0x00 ∷ 0x00 ∷ 0x00 ∷ 0x00 ∷ 0x00 ∷ 0x00 ∷ 0x00 ∷ 0x12 ∷ 0x00 ∷ 0x00
    ∷ 0x78 ∷ 0x72 ∷ 0x00 ∷ 0x0E ∷ 0x6A ∷ 0x61 ∷ 0x76 ∷ 0x61 ∷ 0x2E ∷ 0x6C ∷ 0x61 ∷ 0x6E ∷ 0x67 ∷ 0x2E ∷ 0x45 ∷ 0x6E ∷ 0x75 ∷ 0x6D ∷ 0x00 ∷ 0x00
    ∷ 0x00 ∷ 0x00 ∷ 0x00 ∷ 0x00 ∷ 0x00 ∷ 0x00 ∷ 0x12 ∷ 0x00 ∷ 0x00 ∷ 0x78 ∷ 0x70 ∷ 0x74 ∷ 0x00 ∷ 0x01 ∷ 0x41 ∷ []
unfolding unit_spelling
enum_constant_row_bytes = refl

enum_constant_row_counts : (content_count enum_constant_row ≡ 1) × (refs_of enum_constant_row ≡ 3)
    × (depth_of enum_constant_row ≡ 3) × (epoch_handles enum_constant_row ≡ 4 ∷ [])
enum_constant_row_counts = (refl, refl, refl, refl)

-- a proxy object: its superclass has the one field
abbrev pub proxy_row : ContentTrees
proxy_row =
    content_and (content (object
    (new_class (proxy (codes "I" ∷ []) no_contents (new_class (plain (codes "java.lang.reflect.Proxy") 0xE127DA20CC1043CB 2
    (object_field_of (codes "h") (codes "Ljava/lang/reflect/InvocationHandler;") ∷ []) no_contents no_class))))
    (section_and (section [] (value_and null no_values) no_notes) (section_and (section [] no_values no_notes) no_sections))))
    no_contents

proxy_row_is_right : WellFormed proxy_row
unfolding unit_spelling
proxy_row_is_right = (
  (
    (
      lit< tt,
      (((refl, lit< tt), refl), tt),
      tt,
      (((refl, lit< tt), refl), lit< tt, (lit< tt, refl), lit< tt, ((refl, lit< tt), (refl, (refl, lit< tt)), tt), tt, tt),
    ),
    refl,
    (tt, refl, (tt, tt), refl, (tt, refl, tt, refl, tt)),
  ),
  tt,
)

proxy_row_bytes : spelling proxy_row ≡ 0xAC ∷ 0xED ∷ 0x00 ∷ 0x05 ∷ 0x73 ∷ 0x7D ∷ 0x00 ∷ 0x00 ∷ 0x00 ∷ 0x01 ∷ 0x00 ∷ 0x01 ∷ 0x49 ∷ 0x78 ∷ 0x72 ∷ 0x00 ∷ 0x17 ∷ 0x6A ∷ 0x61 ∷ 0x76
    ∷ 0x61 ∷ 0x2E ∷ 0x6C ∷ 0x61 ∷ 0x6E ∷ 0x67 ∷ 0x2E ∷ 0x72 ∷ 0x65 ∷ 0x66 ∷ 0x6C ∷ 0x65 ∷ 0x63 ∷ 0x74 ∷ 0x2E ∷ 0x50 ∷ 0x72 ∷ 0x6F ∷ 0x78 ∷ 0x79
    ∷ 0xE1 ∷ 0x27 ∷ 0xDA ∷ 0x20 ∷ 0xCC ∷ 0x10 ∷ 0x43 ∷ 0xCB ∷ 0x02 ∷ 0x00 ∷ 0x01 ∷ 0x4C ∷ 0x00 ∷ 0x01 ∷ 0x68 ∷ 0x74 ∷ 0x00 ∷ 0x25 ∷ 0x4C ∷ 0x6A
    ∷ 0x61 ∷ 0x76 ∷ 0x61 ∷ 0x2F ∷ 0x6C ∷ 0x61 ∷ 0x6E ∷ 0x67 ∷ 0x2F ∷ 0x72 ∷ 0x65 ∷ 0x66 ∷ 0x6C ∷ 0x65 ∷ 0x63 ∷ 0x74 ∷ 0x2F ∷ 0x49 ∷ 0x6E ∷ 0x76
    ∷ 0x6F ∷ 0x63 ∷ 0x61 ∷ 0x74 ∷ 0x69 ∷ 0x6F ∷ 0x6E ∷ 0x48 ∷ 0x61 ∷ 0x6E ∷ 0x64 ∷ 0x6C ∷ 0x65 ∷ 0x72 ∷ 0x3B ∷ 0x78 ∷ 0x70 ∷ 0x70 ∷ []
unfolding unit_spelling
proxy_row_bytes = refl

proxy_row_counts : (content_count proxy_row ≡ 1) × (refs_of proxy_row ≡ 4) × (depth_of proxy_row ≡ 3)
    × (epoch_handles proxy_row ≡ 4 ∷ [])
proxy_row_counts = (refl, refl, refl, refl)

-- a reset: the handles begin anew
abbrev pub reset_epochs : ContentTrees
reset_epochs =
    content_and (content (string (short_text (codes "a")))) (content_and reset
    (content_and (content (string (short_text (codes "b")))) (content_and (content (back 0)) no_contents)))

reset_epochs_is_right : WellFormed reset_epochs
unfolding unit_spelling
reset_epochs_is_right =
    ((refl, lit< tt), ((refl, lit< tt), ((lit< tt, lit< tt), tt)))

reset_epochs_bytes : spelling reset_epochs ≡ 0xAC ∷ 0xED ∷ 0x00 ∷ 0x05 ∷ 0x74 ∷ 0x00 ∷ 0x01 ∷ 0x61 ∷ 0x79 ∷ 0x74 ∷ 0x00 ∷ 0x01 ∷ 0x62 ∷ 0x71 ∷ 0x00 ∷ 0x7E ∷ 0x00 ∷ 0x00 ∷ []
unfolding unit_spelling
reset_epochs_bytes = refl

reset_epochs_counts : (content_count reset_epochs ≡ 4) × (refs_of reset_epochs ≡ 3) × (depth_of reset_epochs ≡ 1)
    × (epoch_handles reset_epochs ≡ 1 ∷ 1 ∷ [])
reset_epochs_counts = (refl, refl, refl, refl)

-- int[] {1, -1}
abbrev pub int_array : ContentTrees
int_array =
    content_and (content (array
    (new_class (plain (codes "[I") 0x4DBA602676EAB2A5 2 [] no_contents no_class))
    (raw_body (int_value 1 ∷ int_value 0xFFFFFFFF ∷ []))))
    no_contents

int_array_is_right : WellFormed int_array
unfolding unit_spelling
int_array_is_right = (
  (
    (((refl, lit< tt), refl), lit< tt, (lit< tt, refl), lit< tt, tt, tt, tt),
    refl,
    (lit< tt, ((refl, lit< tt), ((refl, lit< tt), tt))),
  ),
  tt,
)

int_array_bytes : spelling int_array ≡ 0xAC ∷ 0xED ∷ 0x00 ∷ 0x05 ∷ 0x75 ∷ 0x72 ∷ 0x00 ∷ 0x02 ∷ 0x5B ∷ 0x49 ∷ 0x4D ∷ 0xBA ∷ 0x60 ∷ 0x26 ∷ 0x76 ∷ 0xEA ∷ 0xB2 ∷ 0xA5 ∷ 0x02 ∷ 0x00
    ∷ 0x00 ∷ 0x78 ∷ 0x70 ∷ 0x00 ∷ 0x00 ∷ 0x00 ∷ 0x02 ∷ 0x00 ∷ 0x00 ∷ 0x00 ∷ 0x01 ∷ 0xFF ∷ 0xFF ∷ 0xFF ∷ 0xFF ∷ []
unfolding unit_spelling
int_array_bytes = refl

int_array_counts : (content_count int_array ≡ 1) × (refs_of int_array ≡ 2) × (depth_of int_array ≡ 2)
    × (epoch_handles int_array ≡ 2 ∷ [])
int_array_counts = (refl, refl, refl, refl)

-- a java.util.ArrayList that holds "a": its writeObject puts block data and a value behind its field
abbrev pub array_list : ContentTrees
array_list =
    content_and (content (object
    (new_class (plain (codes "java.util.ArrayList") 0x7881D21D99C7619D 3
    (field_of 0x49 (codes "size") ∷ []) no_contents no_class))
    (section_and (section (int_value 1 ∷ []) no_values
    (annotation (content_and (block false (0 ∷ 0 ∷ 0 ∷ 1 ∷ []))
    (content_and (content (string (short_text (codes "a")))) no_contents)))) no_sections)))
    no_contents

array_list_is_right : WellFormed array_list
unfolding unit_spelling
array_list_is_right = (
  (
    (((refl, lit< tt), refl), lit< tt, (lit< tt, refl), lit< tt, ((refl, lit< tt), (refl, refl), tt), tt, tt),
    refl,
    (((refl, lit< tt), tt), refl, tt, (refl, ((refl, lit< tt), ((refl, lit< tt), tt))), tt),
  ),
  tt,
)

array_list_bytes : spelling array_list ≡ 0xAC ∷ 0xED ∷ 0x00 ∷ 0x05 ∷ 0x73 ∷ 0x72 ∷ 0x00 ∷ 0x13 ∷ 0x6A ∷ 0x61 ∷ 0x76 ∷ 0x61 ∷ 0x2E ∷ 0x75 ∷ 0x74 ∷ 0x69 ∷ 0x6C ∷ 0x2E ∷ 0x41 ∷ 0x72
    ∷ 0x72 ∷ 0x61 ∷ 0x79 ∷ 0x4C ∷ 0x69 ∷ 0x73 ∷ 0x74 ∷ 0x78 ∷ 0x81 ∷ 0xD2 ∷ 0x1D ∷ 0x99 ∷ 0xC7 ∷ 0x61 ∷ 0x9D ∷ 0x03 ∷ 0x00 ∷ 0x01 ∷ 0x49 ∷ 0x00
    ∷ 0x04 ∷ 0x73 ∷ 0x69 ∷ 0x7A ∷ 0x65 ∷ 0x78 ∷ 0x70 ∷ 0x00 ∷ 0x00 ∷ 0x00 ∷ 0x01 ∷ 0x77 ∷ 0x04 ∷ 0x00 ∷ 0x00 ∷ 0x00 ∷ 0x01 ∷ 0x74 ∷ 0x00 ∷ 0x01
    ∷ 0x61 ∷ 0x78 ∷ []
unfolding unit_spelling
array_list_bytes = refl

array_list_counts : (content_count array_list ≡ 1) × (refs_of array_list ≡ 3) × (depth_of array_list ≡ 2)
    × (epoch_handles array_list ≡ 3 ∷ [])
array_list_counts = (refl, refl, refl, refl)
