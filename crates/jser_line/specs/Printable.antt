-- Texts that a terminal shows and does not obey.
use Rattle.std.specs.Prelude.{ℕ, ◌&&◌, ◌||◌, ◌==◌, nat_le, Bool, List}
use Rattle.std.specs.List.{list_all}

-- a line feed, or a character from 20 to 7E
abbrev pub is_printed : ℕ → Bool
is_printed b = (b == 0x0A) || (nat_le 0x20 b && nat_le b 0x7E)

abbrev pub is_printable : List ℕ → Bool
is_printable bytes = list_all is_printed bytes
