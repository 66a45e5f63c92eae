-- The lines of names that were counted.
use Rattle.std.specs.Prelude.{ℕ, List, [], ◌∷◌, ◌++◌}
use Rattle.std.specs.Fmt.{decimal}
use Rattle.jser_shown.specs.Counting.{NameTally}
use Rattle.jser_shown.specs.Words.{end_line, quoted}

-- the line of a tally, before what follows
abbrev pub tally_line : (List ℕ → List ℕ) → NameTally → List ℕ → List ℕ
tally_line verdict tally rest =
    decimal tally.times ++ (0x20 ∷ (verdict tally.name ++ (0x20 ∷ quoted tally.name (end_line rest))))

abbrev pub lines_before : (List ℕ → List ℕ) → List NameTally → List ℕ → List ℕ
lines_before verdict [] rest = rest
lines_before verdict (tally ∷ tallies) rest = tally_line verdict tally (lines_before verdict tallies rest)
