-- Class numbers. Classes are numbered from 0 in the order in which they were closed, and the *line* of a class is the numbers
-- of the classes of its chain: the highest superclass first, itself last. Two classes may have equal chains; their lines differ.
use Rattle.std.specs.Prelude.{◌≡◌, ℕ, List, [], ◌∷◌, ◌++◌, length, drop, slice_get, slice_index_or, Option, Some, None}
use Rattle.jser_table.specs.declared.class.Class.{Class}
use Rattle.jser_table.specs.declared.class.Class.TheVariants as class

-- the line of the class with this number, where the lines are those of all classes in the order in which they were closed
abbrev pub line_in : List (List ℕ) → ℕ → List ℕ
line_in lines number = slice_index_or lines number []

-- the line of a class's parent, if it has one
abbrev pub line_of_parent : List (List ℕ) → Option ℕ → List ℕ
line_of_parent lines None = []
line_of_parent lines (Some parent) = line_in lines parent

-- the line of the class that is closed next, under the class `parent`
abbrev pub next_line : List (List ℕ) → (parent : Option ℕ) → List ℕ
next_line lines parent = line_of_parent lines parent ++ length lines ∷ []

-- the number of the class of an entry, where the list has that of each entry that is a closed descriptor
abbrev pub told_number : Option (Option ℕ) → Option ℕ
told_number None = None
told_number (Some number) = number

abbrev pub number_at : List (Option ℕ) → (entry : ℕ) → Option ℕ
number_at numbers entry = told_number (slice_get numbers entry)

-- the number of the parent's class, if there is a parent
abbrev pub parent_number : List (Option ℕ) → (parent : Option ℕ) → Option ℕ
parent_number numbers None = None
parent_number numbers (Some parent) = number_at numbers parent

-- the number that an answer of `class_at` has
abbrev pub answered_number : Class → Option ℕ
answered_number class.NotThere = None
answered_number class.NoClass = None
answered_number class.Open = None
answered_number (class.Closed number) = Some number

-- `whole` begins with `front`
pub record LeadsTo (front whole : List ℕ) : Type 0 where
  pub rest : whole ≡ front ++ drop (length front) whole
