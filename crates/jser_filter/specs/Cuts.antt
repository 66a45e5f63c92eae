-- Cutting a list of units at a unit.
use denote.Bor.{Bor}
use Rattle.std.specs.Prelude.{ℕ, ◌+◌, ◌==◌, take, drop, position, if◌then◌else◌, List, [], ◌∷◌, Option, Some, None, option_map}
use Rattle.std.specs.List.{slice_split}

-- what stands before and after the first such unit
abbrev pub cut : ℕ → List ℕ → Option (List ℕ × List ℕ)
cut at units = option_map (λ place. (take place units, drop (place + 1) units)) (position (λ unit. unit == at) units)

-- what stands before the last such unit: `later` is what stands before the last one of those after this unit
abbrev pub front_with : ℕ → ℕ → Option (List ℕ) → Option (List ℕ)
front_with at unit (Some later) = Some (unit ∷ later)
front_with at unit None = if unit == at then Some [] else None

abbrev pub before_last : ℕ → List ℕ → Option (List ℕ)
before_last at [] = None
before_last at (unit ∷ units) = front_with at unit (before_last at units)

-- what slices hold
abbrev pub part_now : Bor (List ℕ) → List ℕ
part_now part = part.now

abbrev pub both_now : Bor (List ℕ) × Bor (List ℕ) → List ℕ × List ℕ
both_now (front, back) = (front.now, back.now)

-- the parts of a text, cut at each such unit
abbrev pub split_at_each : ℕ → List ℕ → List (List ℕ)
split_at_each at units = slice_split (λ unit. unit == at) units

-- the parts, by the first one and what follows the unit that ends it
abbrev pub split_with : ℕ → Bor (List ℕ) × Option (Bor (List ℕ)) → List (List ℕ)
split_with at (part, None) = part.now ∷ []
split_with at (part, Some rest) = part.now ∷ split_at_each at rest.now
