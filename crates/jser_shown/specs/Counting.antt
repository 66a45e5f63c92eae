-- The text of list as it is counted: along the checked names a list of tallies, one for each different name in the
-- order in which they are first seen.
use Rattle.std.specs.Prelude.{ℕ, suc, if◌then◌else◌, List, [], ◌∷◌, ◌++◌}
use Rattle.std.specs.Str.{bytes_eq}
use Rattle.std.specs.Fmt.{decimal}
use Rattle.jser_shown.specs.Words.{end_line, quoted}

-- a name, and how often it was seen
pub record NameTally : Type 0 where
  pub name : List ℕ
  pub times : ℕ

abbrev pub name_tally : List ℕ → ℕ → NameTally
name_tally name times = record { name = name; times = times }

-- one name more
abbrev pub tally_one : List ℕ → List NameTally → List NameTally
tally_one name [] = name_tally name 1 ∷ []
tally_one name (tally ∷ tallies) =
    if bytes_eq tally.name name then name_tally tally.name (suc tally.times) ∷ tallies
    else tally ∷ tally_one name tallies

-- these names more
abbrev pub tally_all : List NameTally → List (List ℕ) → List NameTally
tally_all tallies [] = tallies
tally_all tallies (name ∷ names) = tally_all (tally_one name tallies) names

-- a line for each tally
abbrev pub tally_lines : (List ℕ → List ℕ) → List NameTally → List ℕ
tally_lines verdict [] = []
tally_lines verdict (tally ∷ tallies) =
    decimal tally.times ++ (0x20 ∷ (verdict tally.name ++ (0x20 ∷ quoted tally.name (end_line (tally_lines verdict tallies)))))
