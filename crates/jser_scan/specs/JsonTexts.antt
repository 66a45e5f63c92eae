-- A JSON string (RFC 8259, sections 7 and 8.2).
use Rattle.std.specs.Prelude.{ℕ, ◌&&◌, Bool, false, if◌then◌else◌, List, [], ◌∷◌}
use Rattle.std.specs.Option.{unwrap_or}
use Rattle.std.specs.Char.Utf16.{is_high_surrogate, is_low_surrogate, lone_unit_char}
use Rattle.jser_shown.specs.Words.{quoted}

-- U+FFFD stands for half of a surrogate pair that is alone: it is no character, and readers of JSON stop at it
abbrev pub whole_unit : ℕ → ℕ
whole_unit unit = unwrap_or (lone_unit_char unit) 0xFFFD

abbrev pub begins_with_pair : List ℕ → Bool
begins_with_pair [] = false
begins_with_pair (unit ∷ []) = false
begins_with_pair (high ∷ low ∷ units) = is_high_surrogate high && is_low_surrogate low

unfoldable pub whole_units : List ℕ → List ℕ
whole_units [] = []
whole_units (unit ∷ []) = whole_unit unit ∷ []
whole_units (high ∷ low ∷ units) =
    if begins_with_pair (high ∷ low ∷ units) then high ∷ low ∷ whole_units units else whole_unit high ∷ whole_units (low ∷ units)

abbrev pub json_text : List ℕ → List ℕ → List ℕ
json_text units k = quoted (whole_units units) k
