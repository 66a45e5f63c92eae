-- Names that are counted, each under a number.
use Rattle.std.specs.Global.{Global}
use Rattle.std.specs.Prelude.{ℕ, suc, ◌≡◌, ◌⊎◌, if◌then◌else◌, List, [], ◌∷◌, map, Option, Some, None, option_map, Vec}
use Rattle.std.specs.List.{IsDistinct}
use Rattle.std.specs.Str.{bytes_eq}
use Rattle.jser_prim.specs.ModifiedUtf8.{IsUnits, modified_utf8}
use Rattle.jser_shown.specs.Counting.{NameTally, name_tally}
use Rattle.jser_names.specs.declared.counts.NameCount.{NameCount}
use Rattle.jser_names.specs.declared.counts.Seen.{Seen}

-- the count of a name, as it is lent, or none
abbrev pub IsCount : Option NameTally → Option NameCount → Type 0
IsCount (Some tally) (Some count) = name_tally count.name.now count.times ≡ tally
IsCount None None = Unit {0}
IsCount _ _ = ⊥

-- the number of the first tally of a name
abbrev pub number_in : (name : List ℕ) → List NameTally → Option ℕ
number_in name [] = None
number_in name (tally ∷ tallies) = if bytes_eq tally.name name then Some 0 else option_map suc (number_in name tallies)

-- the names that were counted
abbrev pub names_counted : List NameTally → List (List ℕ)
names_counted [] = []
names_counted (tally ∷ tallies) = tally.name ∷ names_counted tallies

-- ---- as they are kept

abbrev pub tally_of : Vec ℕ Global × Seen → NameTally
tally_of entry = name_tally entry.0.items entry.1.times

-- the bytes are the name's modified UTF-8, where there are any
abbrev pub IsSpelledBy : (name bytes : List ℕ) → Type 0
IsSpelledBy name bytes = (bytes ≡ []) ⊎ (IsUnits name × (bytes ≡ modified_utf8 name))

-- so with each of these names
abbrev pub AreSpelled : List (Vec ℕ Global × Seen) → Type 0
AreSpelled [] = Unit {0}
AreSpelled (entry ∷ entries) = IsSpelledBy entry.0.items entry.1.spelled.items × AreSpelled entries

-- no two of the names are the same
abbrev pub AreApart : List (Vec ℕ Global × Seen) → Type 0
AreApart entries = IsDistinct (λ a b. bytes_eq a.items b.items) (map (λ entry. entry.0) entries)
