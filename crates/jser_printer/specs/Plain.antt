-- Bytes that are units which stand for themselves in a quoted text.
use Rattle.std.specs.Prelude.{ℕ, ◌≡◌, ◌<◌, List, length, slice_index}
use Rattle.std.specs.List.{flat_map}
use Rattle.jser_shown.specs.Words.{quoted_unit}

-- each is below 80 in hexadecimal
abbrev pub IsAscii : List ℕ → Type 0
IsAscii bytes = (k : ℕ) → k < length bytes → slice_index bytes k < 0x80

pub record ArePlain (bytes : List ℕ) : Type 0 where
  pub quoted : flat_map quoted_unit bytes ≡ bytes
  pub ascii : IsAscii bytes
