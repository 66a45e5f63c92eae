-- Loadable names, and the class that one names: its core, which is the plain name that is left where `[]` at its end, `[L` and
-- `;` round it, and `[` before it are taken off as often as they are there.
use Rattle.std.specs.Prelude.{ℕ, zero, suc, Bool, true, false, ◌==◌, ◌-◌, ◌&&◌, ◌||◌, nat_le, if◌then◌else◌, List, [], ◌∷◌, length, take, get_or, Option, Some, None}
use Rattle.jser_table.specs.Names.{is_primitive_code}
use Rattle.jser_anywhere.specs.Texts.{row_units}

-- a letter, a digit, `_`, `$`, `-`, or a unit from 0080 on
abbrev pub is_part : ℕ → Bool
is_part unit =
    (nat_le 0x41 unit && nat_le unit 0x5A) || (nat_le 0x61 unit && nat_le unit 0x7A) || (nat_le 0x30 unit && nat_le unit 0x39) || unit == 0x5F
    || unit == 0x24 || unit == 0x2D || nat_le 0x80 unit

-- the rest of a plain name: parts, with a `.` between two of them; and whether a part has to come next
abbrev pub plain_from : (wants : Bool) → List ℕ → Bool
plain_from wants [] = if wants then false else true
plain_from wants (unit ∷ units) =
    if unit == 0x2E then (if wants then false else plain_from true units) else (if is_part unit then plain_from false units else false)

abbrev pub is_plain : List ℕ → Bool
is_plain units = plain_from true units

-- these two are its last units, and others stand before them
abbrev pub ends_in_brackets : List ℕ → Bool
ends_in_brackets units = nat_le 3 (length units) && get_or units (length units - 2) 0 == 0x5B && get_or units (length units - 1) 0 == 0x5D

abbrev pub ends_in_semicolon : List ℕ → Bool
ends_in_semicolon units = nat_le 1 (length units) && get_or units (length units - 1) 0 == 0x3B

-- what stands inside behind the first `[`: with no `L` and `;` round it; nothing, where that is the letter of a primitive type
abbrev pub behind_bracket : List ℕ → Option (List ℕ)
behind_bracket [] = None
behind_bracket (first ∷ []) = if is_primitive_code first then None else Some (first ∷ [])
behind_bracket (first ∷ second ∷ rest) =
    if first == 0x4C && ends_in_semicolon (second ∷ rest) then Some (take (length rest) (second ∷ rest)) else Some (first ∷ second ∷ rest)

abbrev pub inside : List ℕ → Option (List ℕ)
inside [] = None
inside (first ∷ rest) = if first == 0x5B then behind_bracket rest else None

-- what is left of a name of which something can be taken off
abbrev pub peeled : List ℕ → Option (List ℕ)
peeled units = if ends_in_brackets units then Some (take (length units - 2) units) else inside units

abbrev pub core_next : (List ℕ → Option (List ℕ)) → List ℕ → Option (List ℕ) → Option (List ℕ)
core_next rest units (Some inner) = rest inner
core_next rest units None = if is_plain units then Some units else None

-- so often at most is something taken off
abbrev pub core_within : ℕ → List ℕ → Option (List ℕ)
core_within zero units = None
core_within (suc most) units = core_next (core_within most) units (peeled units)

-- the class that these units name, if they do: the filter is asked about it
unfoldable pub core : List ℕ → Option (List ℕ)
core units = core_within (length units) units

abbrev pub core_in : Option (List ℕ) → Option (List ℕ)
core_in None = None
core_in (Some units) = core units

-- the class that a text names
unfoldable pub name_units : List ℕ → Option (List ℕ)
name_units bytes = core_in (row_units bytes)
