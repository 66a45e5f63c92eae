-- The text of list: one line for each different checked name, in the order in which they are first seen, with how
-- often it stands in the stream and the verdict on it. `verdict` gives the words of a verdict.
use Rattle.std.specs.Prelude.{ℕ, suc, Bool, true, false, if◌then◌else◌, List, [], ◌∷◌, ◌++◌}
use Rattle.std.specs.Str.{bytes_eq}
use Rattle.std.specs.Fmt.{decimal}
use Rattle.jser_grammar.specs.Trees.{ContentTrees}
use Rattle.jser_grammar.specs.CheckedNames.{checked_names}
use Rattle.jser_shown.specs.Words.{end_line, quoted}

-- how often a name is among these
abbrev pub count_name : List ℕ → List (List ℕ) → ℕ
count_name name [] = 0
count_name name (other ∷ names) = if bytes_eq name other then suc (count_name name names) else count_name name names

abbrev pub has_name : List ℕ → List (List ℕ) → Bool
has_name name [] = false
has_name name (other ∷ names) = if bytes_eq name other then true else has_name name names

-- its line
abbrev pub name_line : (List ℕ → List ℕ) → List (List ℕ) → List ℕ → List ℕ → List ℕ
name_line verdict all name rest =
    decimal (count_name name all) ++ (0x20 ∷ (verdict name ++ (0x20 ∷ quoted name (end_line rest))))

-- `seen` are the names before
abbrev pub name_lines : (List ℕ → List ℕ) → (all seen names : List (List ℕ)) → List ℕ
name_lines verdict all seen [] = []
name_lines verdict all seen (name ∷ names) =
    if has_name name seen then name_lines verdict all seen names
    else name_line verdict all name (name_lines verdict all (name ∷ seen) names)

-- the text of list
abbrev pub listed : (List ℕ → List ℕ) → ContentTrees → List ℕ
listed verdict list = let names = checked_names list in name_lines verdict names [] names
