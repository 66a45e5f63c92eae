-- How a KEY is printed that is not told as it is: so that two of them never look the same.
use Rattle.std.specs.Prelude.{ℕ, Bool, true, false, if◌then◌else◌, List, [], ◌∷◌, ◌++◌}
use Rattle.std.specs.List.{flat_map}
use Rattle.hex.specs.Hex.{encode_lower}
use Rattle.jser_shown.specs.Words.{quoted_unit}
use Rattle.jser_records.specs.declared.sign.Sign.{Sign}
use Rattle.jser_records.specs.declared.sign.Sign.TheVariants as sign

-- A unit of its text is told as in a class name, and a byte that is no UTF-8 as `\x` and two digits; in JSON, which has characters
-- alone, U+FFFD stands for it.
abbrev pub sign_words : (json : Bool) → Sign → List ℕ
sign_words json (sign.Unit unit) = quoted_unit unit
sign_words json (sign.Byte byte) = if json then quoted_unit 0xFFFD else 0x5C ∷ 0x78 ∷ encode_lower (byte ∷ [])

abbrev pub signs_words : (json : Bool) → List Sign → List ℕ → List ℕ
signs_words json signs k = 0x22 ∷ (flat_map (sign_words json) signs ++ (0x22 ∷ k))

-- a byte of it is no UTF-8
abbrev pub has_byte : List Sign → Bool
has_byte [] = false
has_byte (sign.Unit unit ∷ signs) = has_byte signs
has_byte (sign.Byte byte ∷ signs) = true
