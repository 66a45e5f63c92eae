-- How closed descriptors stand for lines: the line of a descriptor is that of its parent and then its own number.
use Rattle.std.specs.Prelude.{ℕ, ◌≡◌, ◌<◌, List, [], ◌∷◌, ◌++◌, length, fold, slice_index_or, Option, Some, None}
use Rattle.jser_table.specs.declared.descriptor.Links.{Links}
use Rattle.jser_table.specs.declared.descriptor.Descriptor.{Descriptor}
use Rattle.jser_table.specs.Lines.{line_in, next_line, LeadsTo}

abbrev pub parent_of : Option Links → Option ℕ
parent_of None = None
parent_of (Some links) = Some links.parent

abbrev pub with_line : List (List ℕ) → Descriptor → List (List ℕ)
with_line lines d = lines ++ next_line lines (parent_of d.links) ∷ []

-- the lines of these descriptors, in the same order
unfoldable pub lines_of : List Descriptor → List (List ℕ)
lines_of descriptors = fold with_line [] descriptors

-- both links of the class at this place lead up its line
abbrev pub IsLined : List (List ℕ) → ℕ → Option Links → Type 0
IsLined lines place None = Unit {0}
IsLined lines place (Some links) =
    LeadsTo (line_in lines links.parent) (line_in lines place) × LeadsTo (line_in lines links.jump) (line_in lines place)

abbrev pub AreLined : List Descriptor → Type 0
AreLined descriptors =
    (place : ℕ) (d : Descriptor) → place < length descriptors → d ≡ slice_index_or descriptors place d → IsLined (lines_of descriptors) place d.links

-- the links of a class made to stand under this parent
abbrev pub LinesUnder : List (List ℕ) → (parent : Option ℕ) → Option Links → Type 0
LinesUnder lines None None = Unit {0}
LinesUnder lines None (Some links) = ⊥
LinesUnder lines (Some parent) None = ⊥
LinesUnder lines (Some parent) (Some links) =
    (links.parent ≡ parent) × LeadsTo (line_in lines links.jump) (line_in lines parent)
