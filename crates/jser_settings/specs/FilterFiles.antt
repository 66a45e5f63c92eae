-- The text of a filter that a file holds: its lines are pieces, or several pieces with `;`.
use Rattle.std.specs.Prelude.{ℕ, ◌==◌, if◌then◌else◌, List, [], ◌∷◌, ◌++◌}
use Rattle.jser_filter.specs.Cuts.{split_at_each}

-- a line without the carriage return at its end, if there is one
unfoldable pub without_return : List ℕ → List ℕ
without_return [] = []
without_return (c ∷ []) = if c == 0x0D then [] else c ∷ []
without_return (c ∷ d ∷ line) = c ∷ without_return (d ∷ line)

-- of a line that begins with `#` nothing is left
abbrev pub uncommented : List ℕ → List ℕ
uncommented [] = []
uncommented (c ∷ line) = if c == 0x23 then [] else c ∷ line

-- The lines, joined by `;`. A carriage return is dropped before a line feed alone, and behind the last line there is none.
abbrev pub joined : List (List ℕ) → List ℕ
joined [] = []
joined (line ∷ []) = uncommented line
joined (line ∷ next ∷ lines) = uncommented (without_return line) ++ 0x3B ∷ joined (next ∷ lines)

abbrev pub filter_text : List ℕ → List ℕ
filter_text bytes = joined (split_at_each 0x0A bytes)
