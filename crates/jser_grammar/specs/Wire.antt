-- The constants of the stream protocol, by their names in `java.io.ObjectStreamConstants` (Java Object Serialization
-- Specification, section 6.4.2, "Terminal Symbols and Constants").
use Rattle.std.specs.Prelude.{ℕ, List, [], ◌∷◌}

-- STREAM_MAGIC and STREAM_VERSION, two bytes each
abbrev pub stream_header : List ℕ
stream_header = 0xAC ∷ 0xED ∷ 0x00 ∷ 0x05 ∷ []

abbrev pub TC_NULL : ℕ
TC_NULL = 0x70

abbrev pub TC_REFERENCE : ℕ
TC_REFERENCE = 0x71

abbrev pub TC_CLASSDESC : ℕ
TC_CLASSDESC = 0x72

abbrev pub TC_OBJECT : ℕ
TC_OBJECT = 0x73

abbrev pub TC_STRING : ℕ
TC_STRING = 0x74

abbrev pub TC_ARRAY : ℕ
TC_ARRAY = 0x75

abbrev pub TC_CLASS : ℕ
TC_CLASS = 0x76

abbrev pub TC_BLOCKDATA : ℕ
TC_BLOCKDATA = 0x77

abbrev pub TC_ENDBLOCKDATA : ℕ
TC_ENDBLOCKDATA = 0x78

abbrev pub TC_RESET : ℕ
TC_RESET = 0x79

abbrev pub TC_BLOCKDATALONG : ℕ
TC_BLOCKDATALONG = 0x7A

abbrev pub TC_EXCEPTION : ℕ
TC_EXCEPTION = 0x7B

abbrev pub TC_LONGSTRING : ℕ
TC_LONGSTRING = 0x7C

abbrev pub TC_PROXYCLASSDESC : ℕ
TC_PROXYCLASSDESC = 0x7D

abbrev pub TC_ENUM : ℕ
TC_ENUM = 0x7E

-- the handle of the first entry of an epoch, as it is written
abbrev pub BASE_WIRE_HANDLE : ℕ
BASE_WIRE_HANDLE = 0x7E0000
