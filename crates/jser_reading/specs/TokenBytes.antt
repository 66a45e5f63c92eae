-- The bytes of a token (Java Object Serialization Specification, section 6.4.2), and of several, joined.
use Rattle.std.specs.Prelude.{ℕ, ◌+◌, true, false, List, [], ◌∷◌, ◌++◌}
use Rattle.jser_prim.specs.Bytes.{big_bytes}
use Rattle.jser_grammar.specs.Spelling.{utf, long_utf, prims_spelling}
use Rattle.jser_grammar.specs.Wire.{TC_NULL, TC_REFERENCE, TC_CLASSDESC, TC_OBJECT, TC_STRING, TC_ARRAY, TC_CLASS, TC_BLOCKDATA, TC_ENDBLOCKDATA, TC_RESET, TC_BLOCKDATALONG, TC_LONGSTRING, TC_PROXYCLASSDESC, TC_ENUM, BASE_WIRE_HANDLE, stream_header}
use Rattle.jser_reading.specs.Labels.{Tag, null_tag, reference_tag, class_desc_tag, object_tag, string_tag, array_tag, class_tag, long_string_tag, proxy_desc_tag, enum_tag, StreamToken, header_token, tag_token, block_tag_token, end_tag_token, reset_tag_token, handle_token, suid_token, flags_token, field_count_token, interface_count_token, array_length_token, code_token, text_token, block_length_token, prims_token, bytes_token, Piece, piece}

-- TC_NULL and so on
abbrev pub tag_byte : Tag → ℕ
tag_byte null_tag = TC_NULL
tag_byte reference_tag = TC_REFERENCE
tag_byte class_desc_tag = TC_CLASSDESC
tag_byte object_tag = TC_OBJECT
tag_byte string_tag = TC_STRING
tag_byte array_tag = TC_ARRAY
tag_byte class_tag = TC_CLASS
tag_byte long_string_tag = TC_LONGSTRING
tag_byte proxy_desc_tag = TC_PROXYCLASSDESC
tag_byte enum_tag = TC_ENUM

abbrev pub bytes_of : StreamToken → List ℕ
bytes_of header_token = stream_header
bytes_of (tag_token tag) = tag_byte tag ∷ []
bytes_of (block_tag_token false) = TC_BLOCKDATA ∷ []
bytes_of (block_tag_token true) = TC_BLOCKDATALONG ∷ []
bytes_of end_tag_token = TC_ENDBLOCKDATA ∷ []
bytes_of reset_tag_token = TC_RESET ∷ []
bytes_of (handle_token n) = big_bytes 4 (BASE_WIRE_HANDLE + n)
bytes_of (suid_token n) = big_bytes 8 n
bytes_of (flags_token n) = n ∷ []
bytes_of (field_count_token n) = big_bytes 2 n
bytes_of (interface_count_token n) = big_bytes 4 n
bytes_of (array_length_token n) = big_bytes 4 n
bytes_of (code_token n) = n ∷ []
bytes_of (text_token false units) = utf units
bytes_of (text_token true units) = long_utf units
bytes_of (block_length_token false n) = big_bytes 1 n
bytes_of (block_length_token true n) = big_bytes 4 n
bytes_of (prims_token ps) = prims_spelling ps
bytes_of (bytes_token bytes) = bytes

-- the bytes of several tokens
abbrev pub joined : List Piece → List ℕ
joined [] = []
joined (piece label token ∷ pieces) = bytes_of token ++ joined pieces
