-- What a raw value means (The Java Language Specification, section 4.2): a number of its type in decimal, a character
-- in quotes, `true` or `false`. `n` is the number that its bytes spell, the highest first.
use Rattle.std.specs.Prelude.{ℕ, ◌-◌, ◌^◌, ◌==◌, ◌+◌, nat_lt, Bool, true, false, if◌then◌else◌, List, [], ◌∷◌, ◌++◌, length, codes, Option, Some, None}
use Rattle.std.specs.Fmt.{decimal}
use Rattle.jser_grammar.specs.Codes.{PrimCode, byte_code, char_code, double_code, float_code, int_code, long_code, short_code, boolean_code, size_of}
use Rattle.jser_reading.specs.TokensFromBytes.{number_of}
use Rattle.jser_decimal.specs.Floats.{double_of, single_of}
use Rattle.jser_shown.specs.Floats.{float_text}
use Rattle.jser_shown.specs.Words.{quoted}

-- two's complement: of the numbers of a type the lower half stand for themselves, and the others, from `least` on, for
-- those from -`least` to -1
abbrev pub signed_text : (least n : ℕ) → List ℕ
signed_text least n = if nat_lt n least then decimal n else 0x2D ∷ decimal (least + least - n)

-- other bytes than 0 and 1 stand for no boolean
abbrev pub boolean_text : ℕ → Option (List ℕ)
boolean_text n = if n == 0 then Some (codes "false") else (if n == 1 then Some (codes "true") else None)

-- what the value means, if it means anything
abbrev pub meaning : PrimCode → ℕ → Option (List ℕ)
meaning byte_code n = Some (signed_text (2 ^ 7) n)
meaning char_code n = Some (quoted (n ∷ []) [])
meaning double_code n = Some (float_text (double_of n))
meaning float_code n = Some (float_text (single_of n))
meaning int_code n = Some (signed_text (2 ^ 31) n)
meaning long_code n = Some (signed_text (2 ^ 63) n)
meaning short_code n = Some (signed_text (2 ^ 15) n)
meaning boolean_code n = boolean_text n

-- a meaning as it follows the bytes: a space, and it in brackets
abbrev pub in_brackets : Option (List ℕ) → List ℕ → List ℕ
in_brackets None rest = rest
in_brackets (Some text) rest = 0x20 ∷ 0x28 ∷ (text ++ (0x29 ∷ rest))

-- what follows the bytes of a raw value, where `values` says whether meanings are told
abbrev pub value_word : (values : Bool) → PrimCode → ℕ → List ℕ → List ℕ
value_word false c n rest = rest
value_word true c n rest = in_brackets (meaning c n) rest

-- the same for bytes of this type, if they have one; other bytes than those of a value mean nothing
abbrev pub bytes_word : (values : Bool) → Option PrimCode → List ℕ → List ℕ → List ℕ
bytes_word values None bytes rest = rest
bytes_word values (Some c) bytes rest = if length bytes == size_of c then value_word values c (number_of bytes) rest else rest
