-- Lists that do not obey the format, by computation: what one rule alone keeps out.
use Rattle.std.proofs.Common.{◌≡◌, ℕ, zero, suc, List, [], ◌∷◌, length, Some, true≢false, refl, sym, ap, codes, arith, false, replicate}
use Rattle.std.proofs.lemmas.List.{length-replicate}
use Rattle.jser_prim.specs.ModifiedUtf8.{unit_spelling, modified_utf8}
use Rattle.jser_grammar.specs.Trees.{FieldTree, ValueTree, new_text, back_text, null, back, string, descriptor, class_object, array, enum_constant, object, DescTree, plain, proxy, ClassPlaceTree, no_class, back_class, new_class, raw_body, value_body, no_values, value_and, section, no_sections, section_and, no_notes, annotation, block, reset, content, ContentTrees, no_contents, content_and}
use Rattle.jser_grammar.specs.WellFormed.{WellFormed}
use Rattle.jser_grammar.proofs.Rows.{int_value, byte_value, short_text, field_of}

-- a content list of one value
abbrev only : ValueTree → ContentTrees
only v = content_and (content v) no_contents

-- a plain class without fields, with these flags and this superclass
abbrev class_with : ℕ → ClassPlaceTree → DescTree
class_with flags parent = plain (codes "A") 1 flags [] no_contents parent

-- a field of a class type, without a name
abbrev value_field : FieldTree
value_field = record { code = 0x4C; name = []; text = Some (new_text (short_text [])) }

-- a proxy of no interfaces
abbrev bare_proxy : DescTree
bare_proxy = proxy [] no_contents no_class

-- a handle that is not there yet
no_handle_yet : WellFormed (only (back 0)) → ⊥
no_handle_yet w = let h = w.0.0 in absurd (omega arith)

-- after a reset the handles begin anew
handle_before_reset : WellFormed
    (content_and (content (string (short_text []))) (content_and reset (content_and (content (back 0)) no_contents))) → ⊥
handle_before_reset w = let h = w.1.0.0 in absurd (omega arith)

-- a class that is its own superclass
own_superclass : WellFormed (only (descriptor (class_with 2 (back_class 0)))) → ⊥
own_superclass w = true≢false (sym w.0.6.0)

-- a string in a class place
string_as_class : WellFormed (content_and (content (string (short_text []))) (only (class_object (back_class 0)))) → ⊥
string_as_class w = true≢false (sym w.1.0.0)

-- a descriptor as the type of a field
class_as_text : WellFormed
    (only (descriptor (plain (codes "A") 1 2
    (record { code = 0x4C; name = []; text = Some (back_text 0) } ∷ []) no_contents no_class))) → ⊥
class_as_text w = true≢false (sym w.0.4.1.1.0)

-- null in a class place
null_class : WellFormed (only (class_object no_class)) → ⊥
null_class w = w.0

-- a reset within an annotation
inner_reset : WellFormed (only (descriptor (plain (codes "A") 1 2 [] (content_and reset no_contents) no_class))) → ⊥
inner_reset w = w.0.5

-- an object of a class that is not serializable, or whose superclass is not
not_serializable : WellFormed
    (only (object (new_class (class_with 0 no_class)) (section_and (section [] no_values no_notes) no_sections))) → ⊥
not_serializable w = true≢false (sym w.0.1)

superclass_not_serializable : WellFormed (only (object (new_class (class_with 2 (new_class (class_with 0 no_class))))
    (section_and (section [] no_values no_notes) (section_and (section [] no_values no_notes) no_sections)))) → ⊥
superclass_not_serializable w = true≢false (sym w.0.1)

-- an externalizable class without block mode
external_raw : WellFormed
    (only (object (new_class (class_with 4 no_class)) (section_and (section [] no_values (annotation no_contents)) no_sections)))
    → ⊥
external_raw w = true≢false (sym w.0.1)

-- an externalizable class has one section, also over a serializable one
external_with_superclass : WellFormed (only (object (new_class (class_with 0x0C (new_class (class_with 2 no_class))))
    (section_and (section [] no_values no_notes) (section_and (section [] no_values (annotation no_contents)) no_sections)))) → ⊥
external_with_superclass w = w.0.2

-- sections from the own class upward
sections_upward : WellFormed (only (object
    (new_class (plain (codes "B") 2 2 (field_of 0x49 (codes "i") ∷ []) no_contents
    (new_class (plain (codes "A") 1 2 (field_of 0x42 (codes "b") ∷ []) no_contents no_class))))
    (section_and (section (int_value 9 ∷ []) no_values no_notes)
    (section_and (section (byte_value 7 ∷ []) no_values no_notes) no_sections)))) → ⊥
sections_upward w = let e = w.0.2.0.0.0 in cc

-- a body of raw values for an array of values, and of values for an array of ints, empty ones too
raw_for_values : WellFormed (only (array (new_class (plain (codes "[LA;") 1 2 [] no_contents no_class)) (raw_body []))) → ⊥
raw_for_values w = w.0.2

values_for_raw : WellFormed (only (array (new_class (plain (codes "[I") 1 2 [] no_contents no_class)) (value_body no_values))) → ⊥
values_for_raw w = w.0.2

-- a type text at a primitive code, and none at `L`
text_at_primitive : WellFormed
    (only (descriptor (plain [] 1 2
    (record { code = 0x49; name = []; text = Some (new_text (short_text [])) } ∷ []) no_contents no_class))) → ⊥
text_at_primitive w = true≢false (sym w.0.4.1.0)

no_text_at_object : WellFormed (only (descriptor (plain [] 1 2 (field_of 0x4C [] ∷ []) no_contents no_class))) → ⊥
no_text_at_object w = true≢false (sym w.0.4.1.0)

-- a name that begins with `[` and is no array name
bad_array_name : WellFormed (only (descriptor (plain (codes "[V") 1 2 [] no_contents no_class))) → ⊥
bad_array_name w = true≢false w.0.0.1

-- flags 02 and 04 together
bad_flags : WellFormed (only (descriptor (class_with 6 no_class))) → ⊥
bad_flags w = true≢false w.0.2.1

-- a flag of E0
flag_20 : WellFormed (only (descriptor (class_with 0x22 no_class))) → ⊥
flag_20 w = let h = w.0.2.0 in absurd (omega arith)

flag_40 : WellFormed (only (descriptor (class_with 0x42 no_class))) → ⊥
flag_40 w = let h = w.0.2.0 in absurd (omega arith)

flag_80 : WellFormed (only (descriptor (class_with 0x82 no_class))) → ⊥
flag_80 w = let h = w.0.2.0 in absurd (omega arith)

-- a field of a primitive type behind one of a class
primitive_behind_object : WellFormed
    (only (descriptor (plain [] 1 2 (value_field ∷ field_of 0x49 [] ∷ []) no_contents no_class))) → ⊥
primitive_behind_object w = true≢false w.0.4.2.1.1

-- a type code that is none of the ten
no_type_code : WellFormed (only (descriptor (plain [] 1 2 (field_of 0x41 [] ∷ []) no_contents no_class))) → ⊥
no_type_code w = true≢false (sym w.0.4.1.0)

-- an object of an array's class, and an array of another class
object_of_array_class : WellFormed (only (object (new_class (plain (codes "[I") 1 2 [] no_contents no_class))
    (section_and (section [] no_values no_notes) no_sections))) → ⊥
object_of_array_class w = true≢false (sym w.0.1)

array_of_plain_class : WellFormed (only (array (new_class (class_with 2 no_class)) (value_body no_values))) → ⊥
array_of_plain_class w = true≢false (sym w.0.1)

-- an enum constant of a class without flag 10
enum_without_flag : WellFormed (only (enum_constant (new_class (class_with 2 no_class)) (new_text (short_text [])))) → ⊥
enum_without_flag w = true≢false (sym w.0.1)

-- a proxy as the class of an array, and of an enum constant
array_of_proxy : WellFormed (only (array (new_class bare_proxy) (value_body no_values))) → ⊥
array_of_proxy w = true≢false (sym w.0.1)

enum_of_proxy : WellFormed (only (enum_constant (new_class bare_proxy) (new_text (short_text [])))) → ⊥
enum_of_proxy w = true≢false (sym w.0.1)

-- an annotation without flag 01, and the flag without an annotation
annotation_without_flag : WellFormed (only (object (new_class (class_with 2 no_class))
    (section_and (section [] no_values (annotation no_contents)) no_sections))) → ⊥
annotation_without_flag w = true≢false (sym w.0.2.3.0)

flag_without_annotation : WellFormed (only (object (new_class (class_with 3 no_class))
    (section_and (section [] no_values no_notes) no_sections))) → ⊥
flag_without_annotation w = true≢false w.0.2.3

-- fewer values than fields of class types, and more
value_left_out : WellFormed (only (object (new_class (plain (codes "A") 1 2 (value_field ∷ []) no_contents no_class))
    (section_and (section [] no_values no_notes) no_sections))) → ⊥
value_left_out w = let e = w.0.2.1 in absurd (omega arith)

value_too_many : WellFormed (only (object (new_class (class_with 2 no_class))
    (section_and (section [] (value_and null no_values) no_notes) no_sections))) → ⊥
value_too_many w = let e = w.0.2.1 in absurd (omega arith)

-- a raw value of another type than the field's, and than the array's elements
byte_for_int : WellFormed (only (object
    (new_class (plain (codes "A") 1 2 (field_of 0x49 [] ∷ []) no_contents no_class))
    (section_and (section (byte_value 7 ∷ []) no_values no_notes) no_sections))) → ⊥
byte_for_int w = let e = w.0.2.0.0.0 in cc

byte_in_int_array : WellFormed
    (only (array (new_class (plain (codes "[I") 1 2 [] no_contents no_class)) (raw_body (byte_value 7 ∷ [])))) → ⊥
byte_in_int_array w = let e = w.0.2.1.0.0 in cc

-- block data of 256 bytes whose size has one byte
wide_short_block : (bytes : List ℕ) → length bytes ≡ 256 → WellFormed (content_and (block false bytes) no_contents) → ⊥
wide_short_block bytes e w = let h = w.0.1 in absurd (omega arith)

short_block_of_256 : WellFormed (content_and (block false (replicate 256 0)) no_contents) → ⊥
short_block_of_256 = wide_short_block (replicate 256 0) (length-replicate {A = ℕ} 256 0)

-- a text of 65,536 bytes whose length has two bytes
wide_short_text : (units : List ℕ) → length (modified_utf8 units) ≡ 65536 → WellFormed (only (string (short_text units))) → ⊥
wide_short_text units e w = let h = w.0.1 in absurd (omega arith)

size_of_letters : (n : ℕ) → length (modified_utf8 (replicate n 0x61)) ≡ n
unfolding unit_spelling
size_of_letters zero = refl
size_of_letters (suc n) = ap (λ k. suc k) (size_of_letters n)

short_text_of_65536 : WellFormed (only (string (short_text (replicate 65536 0x61)))) → ⊥
short_text_of_65536 = wide_short_text (replicate 65536 0x61) (size_of_letters 65536)
