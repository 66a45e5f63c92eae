-- The first place of each name in a list.
use Rattle.std.specs.Prelude.{ℕ, ◌≡◌, List, Option, Some, None, if◌then◌else◌}
use Rattle.std.specs.Str.{bytes_eq}
use Rattle.std.specs.HashMap.{get_by}
use Rattle.jser_filter.specs.declared.places.Places.{Places}

-- the place that is kept for a name, if one is
abbrev pub place_of : Places → List ℕ → Option ℕ
place_of places name = get_by (λ key. bytes_eq name key.items) places.map

-- a value, or else another
abbrev pub or_else : Option ℕ → Option ℕ → Option ℕ
or_else (Some value) other = Some value
or_else None other = other

abbrev pub PutsFirst : Places → Places → List ℕ → ℕ → Type 0
PutsFirst old new name place =
    (q : List ℕ) → place_of new q ≡ (if bytes_eq name q then or_else (place_of old q) (Some place) else place_of old q)

-- no place is changed
abbrev pub KeepsPlaces : Places → Places → Type 0
KeepsPlaces old new = (q : List ℕ) → place_of new q ≡ place_of old q
