-- Which token some bytes are at a position, and how many bytes it needs, as far as its first ones tell (Java Object
-- Serialization Specification, section 6.4.2). Nothing is said here of whether the format takes the token there.
use Rattle.std.specs.Prelude.{ℕ, zero, suc, ◌+◌, ◌-◌, ◌*◌, ◌^◌, Bool, true, false, cond, nat_lt, nat_eq, List, [], ◌∷◌, length, take, drop, Option, Some, None}
use Rattle.jser_grammar.specs.Codes.{PrimCode, size_of}
use Rattle.jser_grammar.specs.Trees.{PrimTree}
use Rattle.jser_grammar.specs.Wire.{TC_NULL, TC_REFERENCE, TC_CLASSDESC, TC_OBJECT, TC_STRING, TC_ARRAY, TC_CLASS, TC_BLOCKDATA, TC_ENDBLOCKDATA, TC_RESET, TC_BLOCKDATALONG, TC_LONGSTRING, TC_PROXYCLASSDESC, TC_ENUM, BASE_WIRE_HANDLE}
use Rattle.jser_reading.specs.Labels.{null_tag, reference_tag, class_desc_tag, object_tag, string_tag, array_tag, class_tag, long_string_tag, proxy_desc_tag, enum_tag, StreamToken, header_token, tag_token, block_tag_token, end_tag_token, reset_tag_token, handle_token, suid_token, flags_token, field_count_token, interface_count_token, array_length_token, code_token, text_token, block_length_token, prims_token, bytes_token, Position, nowhere, header_at, top_at, annotation_at, value_at, text_place_at, class_place_at, superclass_place_at, back_handle_at, text_handle_at, class_handle_at, superclass_handle_at, string_at, class_name_at, field_name_at, interface_name_at, suid_at, field_count_at, interface_count_at, array_length_at, flags_at, type_code_at, block_length_at, raw_at, bytes_at}

-- the number with these bytes, the highest first
abbrev pub number_of : List ℕ → ℕ
number_of [] = 0
number_of (b ∷ bytes) = b * 256 ^ length bytes + number_of bytes

abbrev pub first : List ℕ → ℕ
first [] = 0
first (b ∷ bytes) = b

abbrev pub after_first : List ℕ → List ℕ
after_first [] = []
after_first (b ∷ bytes) = bytes

-- the units in modified UTF-8, so many at most
unfoldable pub units_in : ℕ → List ℕ → List ℕ
units_in zero bytes = []
units_in (suc k) [] = []
units_in (suc k) (b ∷ bytes) =
    cond (nat_lt b 128) (b ∷ units_in k bytes)
    (cond (nat_lt b 224) (((b - 192) * 64 + (first bytes - 128)) ∷ units_in k (after_first bytes))
    (((b - 224) * 4096 + (first bytes - 128) * 64 + (first (after_first bytes) - 128)) ∷ units_in k (after_first (after_first bytes))))

-- the token that a tag is
unfoldable pub tag_from : ℕ → Option StreamToken
tag_from b =
    cond (nat_eq b TC_NULL) (Some (tag_token null_tag))
    (cond (nat_eq b TC_REFERENCE) (Some (tag_token reference_tag)) (cond (nat_eq b TC_CLASSDESC) (Some (tag_token class_desc_tag))
    (cond (nat_eq b TC_OBJECT) (Some (tag_token object_tag))
    (cond (nat_eq b TC_STRING) (Some (tag_token string_tag)) (cond (nat_eq b TC_ARRAY) (Some (tag_token array_tag))
    (cond (nat_eq b TC_CLASS) (Some (tag_token class_tag))
    (cond (nat_eq b TC_BLOCKDATA) (Some (block_tag_token false)) (cond (nat_eq b TC_ENDBLOCKDATA) (Some end_tag_token)
    (cond (nat_eq b TC_RESET) (Some reset_tag_token)
    (cond (nat_eq b TC_BLOCKDATALONG) (Some (block_tag_token true)) (cond (nat_eq b TC_LONGSTRING) (Some (tag_token long_string_tag))
    (cond (nat_eq b TC_PROXYCLASSDESC) (Some (tag_token proxy_desc_tag)) (cond (nat_eq b TC_ENUM) (Some (tag_token enum_tag)) None)))))))))))))

-- so many raw values of one type
unfoldable pub prims_in : PrimCode → ℕ → List ℕ → List PrimTree
prims_in c zero bytes = []
prims_in c (suc n) bytes = record { code = c; bits = number_of (take (size_of c) bytes) } ∷ prims_in c n (drop (size_of c) bytes)

-- the size of the length in front of a text: 8 bytes in the long form
abbrev pub head_size : Bool → ℕ
head_size true = 8
head_size false = 2

abbrev pub text_in : Bool → List ℕ → Option StreamToken
text_in long bytes = Some (text_token long (units_in (length bytes) (drop (head_size long) bytes)))

-- the token in these bytes
abbrev pub token_in : Position → List ℕ → Option StreamToken
token_in nowhere bytes = None
token_in header_at bytes = Some header_token
token_in top_at bytes = tag_from (first bytes)
token_in annotation_at bytes = tag_from (first bytes)
token_in value_at bytes = tag_from (first bytes)
token_in text_place_at bytes = tag_from (first bytes)
token_in (class_place_at owner) bytes = tag_from (first bytes)
token_in (superclass_place_at owner strict) bytes = tag_from (first bytes)
token_in back_handle_at bytes = Some (handle_token (number_of bytes - BASE_WIRE_HANDLE))
token_in text_handle_at bytes = Some (handle_token (number_of bytes - BASE_WIRE_HANDLE))
token_in (class_handle_at owner) bytes = Some (handle_token (number_of bytes - BASE_WIRE_HANDLE))
token_in (superclass_handle_at owner strict) bytes = Some (handle_token (number_of bytes - BASE_WIRE_HANDLE))
token_in (string_at long) bytes = text_in long bytes
token_in (class_name_at role) bytes = text_in false bytes
token_in field_name_at bytes = text_in false bytes
token_in interface_name_at bytes = text_in false bytes
token_in suid_at bytes = Some (suid_token (number_of bytes))
token_in field_count_at bytes = Some (field_count_token (number_of bytes))
token_in interface_count_at bytes = Some (interface_count_token (number_of bytes))
token_in array_length_at bytes = Some (array_length_token (number_of bytes))
token_in (flags_at role) bytes = Some (flags_token (first bytes))
token_in (type_code_at seen) bytes = Some (code_token (first bytes))
token_in (block_length_at long) bytes = Some (block_length_token long (number_of bytes))
token_in (raw_at c n) bytes = Some (prims_token (prims_in c n bytes))
token_in (bytes_at n) bytes = Some (bytes_token bytes)

abbrev pub text_size : Bool → List ℕ → ℕ
text_size long bytes =
    cond (nat_lt (length bytes) (head_size long)) (head_size long) (head_size long + number_of (take (head_size long) bytes))

-- how many bytes the token needs, as far as these tell
abbrev pub size_in : Position → List ℕ → ℕ
size_in nowhere bytes = 1
size_in header_at bytes = 4
size_in top_at bytes = 1
size_in annotation_at bytes = 1
size_in value_at bytes = 1
size_in text_place_at bytes = 1
size_in (class_place_at owner) bytes = 1
size_in (superclass_place_at owner strict) bytes = 1
size_in back_handle_at bytes = 4
size_in text_handle_at bytes = 4
size_in (class_handle_at owner) bytes = 4
size_in (superclass_handle_at owner strict) bytes = 4
size_in (string_at long) bytes = text_size long bytes
size_in (class_name_at role) bytes = text_size false bytes
size_in field_name_at bytes = text_size false bytes
size_in interface_name_at bytes = text_size false bytes
size_in suid_at bytes = 8
size_in field_count_at bytes = 2
size_in interface_count_at bytes = 4
size_in array_length_at bytes = 4
size_in (flags_at role) bytes = 1
size_in (type_code_at seen) bytes = 1
size_in (block_length_at true) bytes = 4
size_in (block_length_at false) bytes = 1
size_in (raw_at c zero) bytes = 1
size_in (raw_at c (suc n)) bytes = suc n * size_of c
size_in (bytes_at zero) bytes = 1
size_in (bytes_at (suc n)) bytes = suc n
