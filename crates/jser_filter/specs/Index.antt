-- How the first match of a name is found, whatever the number of patterns. An exact name and a package, in no module,
-- are found in hash maps; all other patterns are words of a trie, along which the name is walked.
use Rattle.std.specs.Prelude.{ℕ, ◌≡◌, Bool, false, if◌then◌else◌, List, [], ◌∷◌, ◌++◌, position, Option, Some, None}
use Rattle.std.specs.Str.{bytes_eq}
use Rattle.jser_filter.specs.declared.index.Index.{Index}
use Rattle.jser_filter.specs.declared.places.Places.{Places}
use Rattle.jser_filter.specs.declared.trie.Trie.{Trie}
use Rattle.jser_filter.specs.Patterns.{NamePattern, below_package, in_package, prefix, exact}
use Rattle.jser_filter.specs.Pieces.{Piece, empty_piece, limit_piece, pattern_piece, faulty_piece}
use Rattle.jser_filter.specs.Places.{place_of, or_else, KeepsPlaces}
use Rattle.jser_filter.specs.Trie.{IsTrie, Keeps, first_of, begins, least}
use Rattle.jser_filter.specs.Words.{letters, in_module, of_end, of_package, word_of}

-- the name of an exact pattern in no module, and the `P.` of `P.*` in no module
abbrev pub exact_name : Option (List ℕ) → NamePattern → Option (List ℕ)
exact_name (Some wanted) name = None
exact_name None (exact units) = Some units
exact_name None (below_package front) = None
exact_name None (in_package front) = None
exact_name None (prefix front) = None

abbrev pub package_front : Option (List ℕ) → NamePattern → Option (List ℕ)
package_front (Some wanted) name = None
package_front None (exact units) = None
package_front None (below_package front) = None
package_front None (in_package front) = Some front
package_front None (prefix front) = None

-- what a piece has, if it is a pattern
abbrev pub of_piece : (Option (List ℕ) → NamePattern → Option (List ℕ)) → Piece → Option (List ℕ)
of_piece of_pattern empty_piece = None
of_piece of_pattern (limit_piece limit value) = None
of_piece of_pattern (pattern_piece pattern) = of_pattern pattern.in_module pattern.name
of_piece of_pattern (faulty_piece cause) = None

abbrev pub is_these : List ℕ → Option (List ℕ) → Bool
is_these wanted None = false
is_these wanted (Some units) = bytes_eq wanted units

-- an exact pattern in no module that is this name
abbrev pub is_exact : List ℕ → Piece → Bool
is_exact name piece = is_these name (of_piece exact_name piece)

-- a pattern `P.*` in no module for this package
abbrev pub is_inside : List ℕ → Piece → Bool
is_inside package_name piece = is_these (package_name ++ 0x2E ∷ []) (of_piece package_front piece)

abbrev pub is_begun_by : List ℕ → Option (List ℕ) → Bool
is_begun_by letters None = false
is_begun_by letters (Some word) = begins word letters

-- a pattern whose word begins these letters
abbrev pub is_begun : List ℕ → Piece → Bool
is_begun letters piece = is_begun_by letters (of_piece word_of piece)

-- the index tells the places of these pieces
pub record IsIndex (pieces : List Piece) (index : Index) : Type 0 where
  pub exact_at : (name : List ℕ) → place_of index.names name ≡ position (is_exact name) pieces
  pub inside_at : (package_name : List ℕ) → place_of index.packages package_name ≡ position (is_inside package_name) pieces
  pub begun_at : (letters : List ℕ) → first_of index.words letters ≡ position (is_begun letters) pieces
  pub is_trie : IsTrie index.words

-- one more piece, at this place
pub record AddsPlace (old new : Index) (piece : Piece) (place : ℕ) : Type 0 where
  pub exact_at : (name : List ℕ) → place_of new.names name ≡ (if is_exact name piece then or_else (place_of old.names name) (Some place) else place_of old.names name)
  pub inside_at : (name : List ℕ) → place_of new.packages name ≡ (if is_inside name piece then or_else (place_of old.packages name) (Some place) else place_of old.packages name)
  pub begun_at : (letters : List ℕ) → first_of new.words letters ≡ (if is_begun letters piece then least (first_of old.words letters) (Some place) else first_of old.words letters)
  pub is_trie : IsTrie new.words

-- no place is changed
pub record KeepsIndex (old new : Index) : Type 0 where
  pub exact_at : KeepsPlaces old.names new.names
  pub inside_at : KeepsPlaces old.packages new.packages
  pub begun_at : Keeps old.words new.words

-- The first match of a name by the index.

abbrev pub first_inside : Places → Option (List ℕ) → Option ℕ
first_inside packages None = None
first_inside packages (Some package_name) = place_of packages package_name

-- the letters of a name, and of its package with the `.`, in a module
abbrev pub name_in : List ℕ → List ℕ → List ℕ
name_in module_name name = in_module module_name (letters name ++ of_end ∷ [])

abbrev pub package_in : List ℕ → List ℕ → List ℕ
package_in module_name package_name = in_module module_name (letters (package_name ++ 0x2E ∷ []) ++ of_package ∷ [])

abbrev pub first_package_in : Trie → List ℕ → Option (List ℕ) → Option ℕ
first_package_in words module_name None = None
first_package_in words module_name (Some package_name) = first_of words (package_in module_name package_name)

abbrev pub first_in_module : Trie → List ℕ → Option (List ℕ) → List ℕ → Option ℕ
first_in_module words module_name package_found name =
    least (first_package_in words module_name package_found) (first_of words (name_in module_name name))

abbrev pub first_in : Index → Option (List ℕ) → Option (List ℕ) → List ℕ → Option ℕ
first_in index None package_found name = None
first_in index (Some module_name) package_found name = first_in_module index.words module_name package_found name

abbrev pub first_by : Index → Option (List ℕ) → Option (List ℕ) → List ℕ → Option ℕ
first_by index found package_found name =
    least (least (place_of index.names name) (first_inside index.packages package_found))
    (least (first_of index.words (letters name)) (first_in index found package_found name))
