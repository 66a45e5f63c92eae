-- A pair of hexadecimal digits, and a group of four of base64, as one number.
use Rattle.std.specs.Prelude.{ℕ, ◌≡◌, ◌+◌, ◌*◌, ◌<◌, Some}
use Rattle.hex.specs.Hex.{hex_digit_value}
use Rattle.jser_digits.specs.declared.digit.Alphabet.{Alphabet}
use Rattle.jser_digits.specs.Digits.{value_in}

-- two digits of four bits each
pub record ArePair (a b bits : ℕ) : Type 0 where
  pub high : ℕ
  pub low : ℕ
  pub is_high : hex_digit_value a ≡ Some high
  pub is_low : hex_digit_value b ≡ Some low
  pub small_high : high < 16
  pub small_low : low < 16
  pub is : bits ≡ high * 16 + low

-- four digits of six bits each
pub record AreGroup (letters : Alphabet) (a b c d bits : ℕ) : Type 0 where
  pub one : ℕ
  pub two : ℕ
  pub three : ℕ
  pub four : ℕ
  pub is_one : value_in letters a ≡ Some one
  pub is_two : value_in letters b ≡ Some two
  pub is_three : value_in letters c ≡ Some three
  pub is_four : value_in letters d ≡ Some four
  pub small_one : one < 64
  pub small_two : two < 64
  pub small_three : three < 64
  pub small_four : four < 64
  pub is : bits ≡ ((one * 64 + two) * 64 + three) * 64 + four
