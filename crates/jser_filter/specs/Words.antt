-- Patterns and names as words, such that a pattern matches a name where its word begins one of the name's. A unit
-- is an even letter; odd letters mark what units cannot.
use Rattle.std.specs.Prelude.{ℕ, ◌+◌, List, [], ◌∷◌, ◌++◌, map, Option, Some, None}
use Rattle.jser_filter.specs.Patterns.{NamePattern, below_package, in_package, prefix, exact}

abbrev pub letter : ℕ → ℕ
letter unit = unit + unit

abbrev pub letters : List ℕ → List ℕ
letters units = map letter units

-- the odd letters: in front of a module, after it, after a whole name, and after the `.` of a package
abbrev pub of_module : ℕ
of_module = 1

abbrev pub of_name : ℕ
of_name = 3

abbrev pub of_end : ℕ
of_end = 5

abbrev pub of_package : ℕ
of_package = 7

abbrev pub in_module : List ℕ → List ℕ → List ℕ
in_module module_name word = of_module ∷ (letters module_name ++ of_name ∷ word)

abbrev pub name_word : NamePattern → List ℕ
name_word (below_package front) = letters front
name_word (in_package front) = letters front ++ of_package ∷ []
name_word (prefix front) = letters front
name_word (exact units) = letters units ++ of_end ∷ []

-- The word of a pattern, if the trie has it: exact names and packages in no module are found otherwise.
abbrev pub word_of : Option (List ℕ) → NamePattern → Option (List ℕ)
word_of (Some module_name) name = Some (in_module module_name (name_word name))
word_of None (below_package front) = Some (letters front)
word_of None (in_package front) = None
word_of None (prefix front) = Some (letters front)
word_of None (exact units) = None
