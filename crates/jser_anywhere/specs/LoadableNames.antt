-- Loadable names, said without a reader: a plain name is segments separated by `.`; a loadable name is a plain name, or what
-- these make of one: `[]` behind it; `[L` before and `;` behind it; `[` before it, unless it is the letter of a primitive type,
-- alone or with `[]` behind it: that makes an array of primitives, which names no class.
use Rattle.std.specs.Prelude.{◌≡◌, ℕ, Bool, true, false, ◌==◌, ◌&&◌, List, [], ◌∷◌, ◌++◌, Some}
use Rattle.jser_table.specs.Names.{is_primitive_code}
use Rattle.jser_anywhere.specs.Names.{is_part, core}
use Rattle.jser_anywhere.specs.LooseText.{IsLooseText, AreInRow}

abbrev pub AreParts : List ℕ → Type 0
AreParts [] = Unit {0}
AreParts (unit ∷ units) = (is_part unit ≡ true) × AreParts units

-- it is not empty
abbrev pub IsSegment : List ℕ → Type 0
IsSegment [] = ⊥
IsSegment (unit ∷ units) = (is_part unit ≡ true) × AreParts units

abbrev pub AreSegments : List (List ℕ) → Type 0
AreSegments [] = Unit {0}
AreSegments (segment ∷ segments) = IsSegment segment × AreSegments segments

-- some texts with a `.` between each two
abbrev pub dotted : List ℕ → List (List ℕ) → List ℕ
dotted first [] = first
dotted first (next ∷ others) = first ++ 0x2E ∷ dotted next others

pub record IsPlainName (units : List ℕ) : Type 0 where
  pub first : List ℕ
  pub others : List (List ℕ)
  pub segment : IsSegment first
  pub segments : AreSegments others
  pub units_are : units ≡ dotted first others

pub data Wrap : Type 0 where
  brackets : Wrap
  class : Wrap
  bracket : Wrap

-- what stands inside, and what is made of it
pub record Wraps (make : List ℕ → List ℕ) (is : List ℕ → Type 0) (units : List ℕ) : Type 0 where
  pub inner : List ℕ
  pub units_are : units ≡ make inner
  pub inner_is : is inner

abbrev pub with_brackets : List ℕ → List ℕ
with_brackets inner = inner ++ 0x5B ∷ 0x5D ∷ []

abbrev pub with_class : List ℕ → List ℕ
with_class inner = 0x5B ∷ 0x4C ∷ (inner ++ 0x3B ∷ [])

abbrev pub with_bracket : List ℕ → List ℕ
with_bracket inner = 0x5B ∷ inner

-- `[]`, so often as it is there
abbrev pub are_brackets : List ℕ → Bool
are_brackets [] = true
are_brackets (unit ∷ []) = false
are_brackets (first ∷ second ∷ units) = first == 0x5B && second == 0x5D && are_brackets units

-- the letter of a primitive type, alone or with `[]` behind it
abbrev pub is_primitive : List ℕ → Bool
is_primitive [] = false
is_primitive (unit ∷ units) = is_primitive_code unit && are_brackets units

abbrev pub IsWrapped : List Wrap → (name units : List ℕ) → Type 0
IsWrapped [] name units = units ≡ name
IsWrapped (brackets ∷ wraps) name units = Wraps with_brackets (IsWrapped wraps name) units
IsWrapped (class ∷ wraps) name units = Wraps with_class (IsWrapped wraps name) units
IsWrapped (bracket ∷ wraps) name units = Wraps with_bracket (λ inner. (is_primitive inner ≡ false) × IsWrapped wraps name inner) units

-- these units name a class: the plain name of it, its core, is inside
pub record HasCore (units name : List ℕ) : Type 0 where
  pub plain : IsPlainName name
  pub wraps : List Wrap
  pub wrapped : IsWrapped wraps name units

-- The reader of names tells the core of each loadable name, and of nothing else.
pub record ReadsLoadable : Type 0 where
  pub all : (units name : List ℕ) → HasCore units name → core units ≡ Some name
  pub only : (units name : List ℕ) → core units ≡ Some name → HasCore units name

-- A row goes on behind each loadable name: its text has no byte below 20.
abbrev pub NamesAreInRows : Type 0
NamesAreInRows = (text units name : List ℕ) → IsLooseText text units → HasCore units name → AreInRow text
