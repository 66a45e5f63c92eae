-- The text of a value: which of its characters are digits to the decoder, which are passed over, and what stands for no value.
use Rattle.std.specs.Prelude.{ℕ, ◌==◌, ◌&&◌, ◌||◌, Bool, false, drop, map, if◌then◌else◌, List, [], ◌∷◌}
use Rattle.jser_inputs.specs.declared.Form.{Form}
use Rattle.jser_inputs.specs.declared.Form.TheVariants as form
use Rattle.jser_inputs.specs.Spaces.{is_space}

-- White space, which the decoder passes over, is no character of a value: it is as a NUL, which is no digit of any form.
abbrev pub without_space : ℕ → ℕ
without_space c = if is_space c then 0x00 else c

-- `\n` of two characters is passed over: both are as white space
abbrev pub blanked : List ℕ → List ℕ
blanked [] = []
blanked (c ∷ []) = c ∷ []
blanked (c ∷ d ∷ text) = if c == 0x5C && d == 0x6E then 0x20 ∷ 0x20 ∷ blanked text else c ∷ blanked (d ∷ text)

-- the characters of a text, as its decoder takes them
abbrev pub characters_in : (copy : Bool) → List ℕ → List ℕ
characters_in copy text = if copy then blanked (map without_space text) else map without_space text

-- `\N` stands for no value
abbrev pub is_null : List ℕ → Bool
is_null [] = false
is_null (a ∷ []) = false
is_null (a ∷ b ∷ []) = a == 0x5C && b == 0x4E
is_null (a ∷ b ∷ c ∷ text) = false

-- Hexadecimal digits may begin with `\\x`, `\x` or `0x`: how long that is.
abbrev pub short_mark : (a b : ℕ) → ℕ
short_mark a b = if (a == 0x5C || a == 0x30) && b == 0x78 then 2 else 0

abbrev pub mark_size : List ℕ → ℕ
mark_size [] = 0
mark_size (a ∷ []) = 0
mark_size (a ∷ b ∷ []) = short_mark a b
mark_size (a ∷ b ∷ c ∷ text) = if a == 0x5C && b == 0x5C && c == 0x78 then 3 else short_mark a b

-- the characters behind it
abbrev pub behind_mark : Form → List ℕ → List ℕ
behind_mark form.Binary text = text
behind_mark form.Hex text = drop (mark_size text) text
behind_mark form.Base64 text = text
behind_mark form.Base64Url text = text

-- how long the mark is in this form
abbrev pub mark_in : Form → List ℕ → ℕ
mark_in form.Binary text = 0
mark_in form.Hex text = mark_size text
mark_in form.Base64 text = 0
mark_in form.Base64Url text = 0
