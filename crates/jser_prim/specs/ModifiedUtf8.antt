-- Modified UTF-8, the coding of text in a stream: `java.io.DataInput`, "Modified UTF-8". It codes 16-bit
-- units, each by itself, also those of a surrogate pair: 0x0001 to 0x007F in one byte,
-- 0x0000 and 0x0080 to 0x07FF in two, 0x0800 to 0xFFFF in three.
use Rattle.std.specs.Prelude.{ℕ, IsTrue, ◌+◌, ◌/◌, ◌%◌, ◌&&◌, nat_lt, nat_le, if◌then◌else◌, List, [], ◌∷◌, ◌++◌}
use Rattle.std.specs.Char.Escape.{encode_utf16}
use Rattle.std.specs.List.{flat_map, list_all}
use Rattle.std.specs.Str.{chars}

-- the bytes of one unit
unfoldable pub unit_spelling : ℕ → List ℕ
unit_spelling u =
    if nat_le 0x01 u && nat_lt u 0x80 then u ∷ []
    else (if nat_lt u 0x800 then (0xC0 + u / 64) ∷ (0x80 + u % 64) ∷ []
    else ((0xE0 + u / 4096) ∷ (0x80 + u / 64 % 64) ∷ (0x80 + u % 64) ∷ []))

-- the bytes of a text: those of its units, one after another
abbrev pub modified_utf8 : List ℕ → List ℕ
modified_utf8 [] = []
modified_utf8 (unit ∷ units) = unit_spelling unit ++ modified_utf8 units

-- these numbers are 16-bit units
abbrev pub IsUnits : List ℕ → Type 0
IsUnits units = IsTrue (list_all (λ unit. nat_lt unit 0x10000) units)

-- the units of a text of the program, by which Java's `char` values are meant: UTF-16
abbrev pub utf16_units : List ℕ → List ℕ
utf16_units text = flat_map encode_utf16 (chars text)
