-- Whether the text of a filter has a pattern.
use Rattle.std.specs.Prelude.{ℕ, ◌==◌, ◌||◌, Bool, true, false, if◌then◌else◌, List, [], ◌∷◌}
use Rattle.jser_settings.specs.declared.no_pattern.PieceSoFar.{PieceSoFar}
use Rattle.jser_settings.specs.declared.no_pattern.PieceSoFar.TheVariants as piece

-- A piece is a pattern where it is not empty and has no `=`. This is a piece so far, with one character more.
abbrev pub with_byte : PieceSoFar → ℕ → PieceSoFar
with_byte piece.Empty b = if b == 0x3D then piece.Limit else piece.Pattern
with_byte piece.Pattern b = if b == 0x3D then piece.Limit else piece.Pattern
with_byte piece.Limit b = piece.Limit

abbrev pub is_pattern : PieceSoFar → Bool
is_pattern piece.Empty = false
is_pattern piece.Pattern = true
is_pattern piece.Limit = false

-- behind such a piece, a `;` ends it
abbrev pub has_pattern_behind : PieceSoFar → List ℕ → Bool
has_pattern_behind before [] = is_pattern before
has_pattern_behind before (b ∷ text) =
    if b == 0x3B then is_pattern before || has_pattern_behind piece.Empty text else has_pattern_behind (with_byte before b) text

abbrev pub has_pattern : List ℕ → Bool
has_pattern text = has_pattern_behind piece.Empty text
