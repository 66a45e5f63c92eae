-- Where a reader of lines may end one. Programs differ in it: POSIX has the line feed, Java and Python in text mode a carriage return
-- too, and Python's `splitlines` and Unicode (UAX 14, classes BK, CR, LF and NL) others besides.
use Rattle.std.specs.Prelude.{ℕ, ◌==◌, ◌&&◌, ◌||◌, not, nat_lt, Bool, false, List, [], ◌∷◌}

-- a control character of ASCII, and no TAB
abbrev pub is_control : ℕ → Bool
is_control c = (nat_lt c 0x20 && not (c == 0x09)) || c == 0x7F

-- U+0085, U+2028 and U+2029 in UTF-8
abbrev pub is_next_line : (a b : ℕ) → Bool
is_next_line a b = a == 0xC2 && b == 0x85

abbrev pub is_separator : (a b c : ℕ) → Bool
is_separator a b c = a == 0xE2 && b == 0x80 && (c == 0xA8 || c == 0xA9)

-- it may end before these bytes
abbrev pub begins_line_end : List ℕ → Bool
begins_line_end [] = false
begins_line_end (a ∷ []) = is_control a
begins_line_end (a ∷ b ∷ []) = is_control a || is_next_line a b
begins_line_end (a ∷ b ∷ c ∷ rest) = is_control a || (is_next_line a b || is_separator a b c)

-- it may end in them
abbrev pub has_line_end : List ℕ → Bool
has_line_end [] = false
has_line_end (c ∷ bytes) = begins_line_end (c ∷ bytes) || has_line_end bytes
