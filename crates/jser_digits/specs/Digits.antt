-- The digits of base64 (RFC 4648, tables 1 and 2), by their codes in ASCII. Those of hexadecimal are the kit's.
use Rattle.std.specs.Prelude.{ℕ, ◌+◌, ◌-◌, ◌==◌, ◌&&◌, ◌||◌, nat_le, if◌then◌else◌, Option, Some, None}
use Rattle.jser_digits.specs.declared.digit.Alphabet.{Alphabet}
use Rattle.jser_digits.specs.declared.digit.Alphabet.TheVariants as alphabet

-- those that both alphabets have, `A` to `Z`, `a` to `z` and `0` to `9`
abbrev pub shared_value : ℕ → Option ℕ
shared_value c =
    if nat_le 65 c && nat_le c 90 then Some (c - 65)
    else if nat_le 97 c && nat_le c 122 then Some (c - 71)
    else if nat_le 48 c && nat_le c 57 then Some (c + 4)
    else None

-- the other two are `+` and `/` in the standard alphabet, `-` and `_` in the URL-safe one

abbrev pub standard_value : ℕ → Option ℕ
standard_value c = if c == 0x2B then Some 62 else if c == 0x2F then Some 63 else shared_value c

abbrev pub url_safe_value : ℕ → Option ℕ
url_safe_value c = if c == 0x2D then Some 62 else if c == 0x5F then Some 63 else shared_value c

abbrev pub either_value : ℕ → Option ℕ
either_value c = if c == 0x2B || c == 0x2D then Some 62 else if c == 0x2F || c == 0x5F then Some 63 else shared_value c

-- the value of a digit of this alphabet
abbrev pub value_in : Alphabet → ℕ → Option ℕ
value_in alphabet.Standard c = standard_value c
value_in alphabet.UrlSafe c = url_safe_value c
value_in alphabet.Either c = either_value c
