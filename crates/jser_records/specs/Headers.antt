-- The line before the bytes of a record: it ends in their number, in decimal, or in -1 where there is no value. What is before that
-- is the KEY.
use Rattle.std.specs.Prelude.{ℕ, ◌≡◌, ◌⊎◌, ◌+◌, ◌-◌, ◌*◌, ◌≤◌, ◌<◌, ◌==◌, ◌&&◌, ◌||◌, nat_le, Bool, true, false, List, [], ◌∷◌, ◌++◌, All, length, take}
use Rattle.jser_records.specs.declared.header.Header.{Header}
use Rattle.jser_records.specs.declared.header.Header.TheVariants as header
use Rattle.jser_records.specs.LineEnds.{has_line_end}

abbrev pub IsDigit : ℕ → Type 0
IsDigit c = (0x30 ≤ c) × (c ≤ 0x39)

-- the number that decimal digits are, behind those of another
abbrev pub number_from : ℕ → List ℕ → ℕ
number_from n [] = n
number_from n (c ∷ digits) = number_from (n * 10 + (c - 0x30)) digits

-- these are all the digits at the end of a line
pub record EndsIn (line front digits : List ℕ) : Type 0 where
  pub split : line ≡ front ++ digits
  pub all : All IsDigit digits
  pub others : (before : List ℕ) (c : ℕ) → front ≡ before ++ (c ∷ []) → IsDigit c → ⊥

abbrev pub IsSeparator : ℕ → Type 0
IsSeparator c = (c ≡ 0x20) ⊎ ((c ≡ 0x09) ⊎ (c ≡ 0x24))

-- a length may stand behind this: behind nothing, or behind the KEY and a space, a TAB or a `$`
abbrev pub EndsKey : (front key : List ℕ) → Type 0
EndsKey front key = ((front ≡ []) × (key ≡ [])) ⊎ ((c : ℕ) × (front ≡ key ++ (c ∷ [])) × IsSeparator c)

-- it ends in a length of at most 18 digits
pub record SaysLength (line key : List ℕ) (count : ℕ) : Type 0 where
  pub front : List ℕ
  pub digits : List ℕ
  pub ends : EndsIn line front digits
  pub some : 0 < length digits
  pub few : length digits ≤ 18
  pub is : count ≡ number_from 0 digits
  pub key_is : EndsKey front key

-- it ends in -1
pub record SaysNull (line key : List ℕ) : Type 0 where
  pub front : List ℕ
  pub split : line ≡ front ++ (0x2D ∷ 0x31 ∷ [])
  pub key_is : EndsKey front key

-- a minus sign and these digits are -1, and so many bytes are the KEY
pub record NullKey (front digits : List ℕ) (key : ℕ) : Type 0 where
  pub before : List ℕ
  pub minus : front ≡ before ++ (0x2D ∷ [])
  pub one : digits ≡ 0x31 ∷ []
  pub within : key ≤ length before
  pub key_is : EndsKey before (take key before)

-- it ends in no length, and not in -1
pub record SaysNone (line : List ℕ) : Type 0 where
  pub front : List ℕ
  pub digits : List ℕ
  pub ends : EndsIn line front digits
  pub no_length : (length digits ≡ 0) ⊎ ((18 < length digits) ⊎ ((key : List ℕ) → EndsKey front key → ⊥))
  pub no_null : (before key : List ℕ) → front ≡ before ++ (0x2D ∷ []) → digits ≡ 0x31 ∷ [] → EndsKey before key → ⊥

-- Such a line is no record where it is empty, is `END`, or begins with `*`, `+`, `-` or `:`: servers reply so.
abbrev pub is_mark : ℕ → Bool
is_mark c = c == 0x2A || (c == 0x2B || (c == 0x2D || c == 0x3A))

abbrev pub is_end : List ℕ → Bool
is_end [] = false
is_end (a ∷ []) = false
is_end (a ∷ b ∷ []) = false
is_end (a ∷ b ∷ c ∷ []) = a == 0x45 && (b == 0x4E && c == 0x44)
is_end (a ∷ b ∷ c ∷ d ∷ line) = false

abbrev pub is_reply : List ℕ → Bool
is_reply [] = true
is_reply (c ∷ line) = is_mark c || is_end (c ∷ line)

-- A server's error is `-` and its name, in capital letters. Nothing is behind it, whatever it ends in.
abbrev pub is_error : List ℕ → Bool
is_error [] = false
is_error (a ∷ []) = false
is_error (a ∷ b ∷ line) = a == 0x2D && (nat_le 0x41 b && nat_le b 0x5A)

-- a line that can be a header: no reader of lines may end one in it, and it is no error
pub record IsHead (line : List ℕ) : Type 0 where
  pub whole : has_line_end line ≡ false
  pub no_error : is_error line ≡ false

-- what is told of the length in a line is right of it
abbrev pub SaysHeader : (line : List ℕ) → Header → Type 0
SaysHeader line header.Other = SaysNone line × (is_reply line ≡ true)
SaysHeader line header.LineEnd = ⊥
SaysHeader line header.Error = ⊥
SaysHeader line (header.Bytes key count) = SaysLength line (take key line) count
SaysHeader line (header.Null key) = SaysNull line (take key line)
SaysHeader line header.NoLength = SaysNone line × (is_reply line ≡ false)

-- what is told of a line is right of it
abbrev pub IsHeader : (line : List ℕ) → Header → Type 0
IsHeader line header.Other = IsHead line × SaysHeader line header.Other
IsHeader line header.LineEnd = has_line_end line ≡ true
IsHeader line header.Error = (has_line_end line ≡ false) × (is_error line ≡ true)
IsHeader line (header.Bytes key count) = IsHead line × SaysHeader line (header.Bytes key count)
IsHeader line (header.Null key) = IsHead line × SaysHeader line (header.Null key)
IsHeader line header.NoLength = IsHead line × SaysHeader line header.NoLength
