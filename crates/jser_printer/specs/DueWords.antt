-- The first lines of sections.
use Rattle.std.specs.Prelude.{ℕ, List, Option}
use Rattle.jser_shown.specs.Words.{begin_line}
use Rattle.jser_printer.specs.Steps.{section_line}

-- the section of a class with this name, or of a proxy
abbrev pub section_words : (L : ℕ) → (word : List ℕ) → Option (List ℕ) → List ℕ → List ℕ
section_words L word name k = begin_line L (section_line word name k)
