-- Worked rows: what stands in some short bytes.
use Rattle.std.specs.Prelude.{◌≡◌, ◌==◌, ℕ, Bool, true, false, List, [], ◌∷◌, ◌++◌, Some, None, replicate}
use Rattle.jser_anywhere.specs.Texts.{row_units}
use Rattle.jser_anywhere.specs.Names.{core, name_units}
use Rattle.jser_anywhere.specs.Standing.{StandsAt}

-- a name of so many letters
abbrev pub letters : ℕ → List ℕ
letters n = replicate n 0x61

-- 7D, the count 3, and the names a, b, c
abbrev pub three_names : List ℕ
three_names = 0x7D ∷ 0 ∷ 0 ∷ 0 ∷ 3 ∷ 0 ∷ 1 ∷ 0x61 ∷ 0 ∷ 1 ∷ 0x62 ∷ 0 ∷ 1 ∷ 0x63 ∷ []

-- these bytes with `;` for b, which is no name
abbrev pub no_name_between : List ℕ
no_name_between = 0x7D ∷ 0 ∷ 0 ∷ 0 ∷ 3 ∷ 0 ∷ 1 ∷ 0x61 ∷ 0 ∷ 1 ∷ 0x3B ∷ 0 ∷ 1 ∷ 0x63 ∷ []

-- and with the byte 1F, behind which no row goes on
abbrev pub cut_row : List ℕ
cut_row = 0x7D ∷ 0 ∷ 0 ∷ 0 ∷ 3 ∷ 0 ∷ 1 ∷ 0x61 ∷ 0 ∷ 1 ∷ 0x1F ∷ 0 ∷ 1 ∷ 0x63 ∷ []

-- an array of primitives in a row of two, and the name a
abbrev pub behind_primitives : List ℕ
behind_primitives = 0x7D ∷ 0 ∷ 0 ∷ 0 ∷ 2 ∷ 0 ∷ 2 ∷ 0x5B ∷ 0x49 ∷ 0 ∷ 1 ∷ 0x61 ∷ []

-- the name r ends with 72, which stands before the name a
abbrev pub chained : List ℕ
chained = 0x72 ∷ 0 ∷ 1 ∷ 0x72 ∷ 0 ∷ 1 ∷ 0x61 ∷ []

-- 7D 00 00 72 01 and a name of 65 letters; at the 72 a descriptor's name of 256
abbrev pub overlapping : List ℕ
overlapping = 0x7D ∷ 0 ∷ 0 ∷ 0x72 ∷ 1 ∷ 0 ∷ 0x41 ∷ letters 255

-- Two rows, of which the second begins in the count of the first. Its first text begins in the middle of the other's, which has
-- the length of it in the byte 20; behind the other, b is the second of the first row.
abbrev pub two_rows : List ℕ
two_rows = 0x7D ∷ 0 ∷ 0 ∷ 0x7D ∷ 0 ∷ 0 ∷ 3 ∷ 0x20 ∷ 0x20 ∷ 0x20 ∷ 0 ∷ 1 ∷ 0x62 ∷ []

-- the name a.B
abbrev pub a_B : List ℕ
a_B = 0x61 ∷ 0x2E ∷ 0x42 ∷ []

-- [a.B and [L[a.B; without and with [] behind
abbrev pub bracketed : List ℕ
bracketed = 0x5B ∷ a_B

abbrev pub bracketed_twice : List ℕ
bracketed_twice = bracketed ++ 0x5B ∷ 0x5D ∷ []

abbrev pub bracketed_class : List ℕ
bracketed_class = 0x5B ∷ 0x4C ∷ (bracketed ++ 0x3B ∷ [])

abbrev pub bracketed_class_twice : List ℕ
bracketed_class_twice = bracketed_class ++ 0x5B ∷ 0x5D ∷ []

-- 7D, the count 5, these four, and the name c
abbrev pub bracketed_row : List ℕ
bracketed_row =
    0x7D ∷ 0 ∷ 0 ∷ 0 ∷ 5 ∷ 0 ∷ 4 ∷ (bracketed ++ 0 ∷ 6 ∷ (bracketed_twice ++ 0 ∷ 7 ∷ (bracketed_class ++ 0 ∷ 9 ∷ (bracketed_class_twice ++ 0 ∷ 1 ∷ 0x63 ∷ []))))

-- this is the name a
abbrev pub is_a : List ℕ → Bool
is_a [] = false
is_a (unit ∷ []) = unit == 0x61
is_a (unit ∷ more ∷ units) = false

pub record WorkedRows : Type 0 where
  pub overlong_of_two : name_units (0xC1 ∷ 0xA1 ∷ []) ≡ Some (0x61 ∷ [])
  pub overlong_of_three : name_units (0xE0 ∷ 0x81 ∷ 0xA1 ∷ []) ≡ Some (0x61 ∷ [])
  pub array : name_units (0x5B ∷ 0x5B ∷ 0x4C ∷ 0x61 ∷ 0x3B ∷ []) ≡ Some (0x61 ∷ [])
  pub brackets_behind : name_units (0x61 ∷ 0x5B ∷ 0x5D ∷ 0x5B ∷ 0x5D ∷ []) ≡ Some (0x61 ∷ [])
  pub brackets_inside : name_units (0x5B ∷ 0x4C ∷ 0x61 ∷ 0x5B ∷ 0x5D ∷ 0x3B ∷ []) ≡ Some (0x61 ∷ [])
  pub class_open : name_units (0x5B ∷ 0x4C ∷ 0x61 ∷ []) ≡ Some (0x4C ∷ 0x61 ∷ [])
  pub class_of_no_name : core (0x5B ∷ 0x5B ∷ 0x4C ∷ 0x61 ∷ 0x3B ∷ 0x3B ∷ []) ≡ None
  pub no_class : core (0x5B ∷ 0x4C ∷ 0x3B ∷ []) ≡ None
  pub no_code : core (0x5B ∷ 0x56 ∷ []) ≡ Some (0x56 ∷ [])
  pub primitive_array : core (0x5B ∷ 0x49 ∷ []) ≡ None
  pub primitive_arrays : core (0x5B ∷ 0x5B ∷ 0x49 ∷ []) ≡ None
  pub primitive_and_brackets : core (0x5B ∷ 0x49 ∷ 0x5B ∷ 0x5D ∷ []) ≡ None
  pub primitive_inside : core (0x5B ∷ 0x4C ∷ 0x5B ∷ 0x49 ∷ 0x3B ∷ []) ≡ None
  pub class_of_a_letter : core (0x5B ∷ 0x4C ∷ 0x49 ∷ 0x3B ∷ []) ≡ Some (0x49 ∷ [])
  pub only_brackets : core (0x5B ∷ 0x5D ∷ []) ≡ None
  pub digit : name_units (0x31 ∷ 0x2E ∷ 0x2D ∷ []) ≡ Some (0x31 ∷ 0x2E ∷ 0x2D ∷ [])
  pub two_dots : name_units (0x61 ∷ 0x2E ∷ 0x2E ∷ 0x61 ∷ []) ≡ None
  pub semicolon : name_units (0x61 ∷ 0x3B ∷ []) ≡ None
  pub blank : row_units (0x61 ∷ 0x20 ∷ []) ≡ Some (0x61 ∷ 0x20 ∷ [])
  pub control : row_units (0x61 ∷ 0x1F ∷ []) ≡ None
  pub longest : StandsAt (0x72 ∷ 0x23 ∷ 0xFF ∷ letters 9215) 0 9218 (letters 9215)
  pub too_long : (to : ℕ) (units : List ℕ) → StandsAt (0x72 ∷ 0x24 ∷ 0 ∷ letters 9216) 0 to units → ⊥
  pub third : StandsAt three_names 0 14 (0x63 ∷ [])
  pub before_cut : StandsAt cut_row 0 8 (0x61 ∷ [])
  pub after_cut : (to : ℕ) (units : List ℕ) → StandsAt cut_row 0 to units → is_a units ≡ true
  pub behind_no_name : StandsAt no_name_between 0 14 (0x63 ∷ [])
  pub bracketed_alone : StandsAt (0x72 ∷ 0 ∷ 4 ∷ bracketed) 0 7 a_B
  pub bracketed_twice_alone : StandsAt (0x72 ∷ 0 ∷ 6 ∷ bracketed_twice) 0 9 a_B
  pub bracketed_class_alone : StandsAt (0x72 ∷ 0 ∷ 7 ∷ bracketed_class) 0 10 a_B
  pub bracketed_class_twice_alone : StandsAt (0x72 ∷ 0 ∷ 9 ∷ bracketed_class_twice) 0 12 a_B
  pub bracketed_in_row : StandsAt bracketed_row 0 11 a_B
  pub bracketed_twice_in_row : StandsAt bracketed_row 0 19 a_B
  pub bracketed_class_in_row : StandsAt bracketed_row 0 28 a_B
  pub bracketed_class_twice_in_row : StandsAt bracketed_row 0 39 a_B
  pub behind_bracketed : StandsAt bracketed_row 0 42 (0x63 ∷ [])
  pub after_primitives : StandsAt behind_primitives 0 12 (0x61 ∷ [])
  pub chained_first : StandsAt chained 0 4 (0x72 ∷ [])
  pub chained_second : StandsAt chained 3 7 (0x61 ∷ [])
  pub overlapping_row : StandsAt overlapping 0 72 (letters 65)
  pub overlapping_descriptor : StandsAt overlapping 3 262 (0x41 ∷ letters 255)
  pub behind_a_length : StandsAt two_rows 0 13 (0x62 ∷ [])
