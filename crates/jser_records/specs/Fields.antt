-- The fields of a line, with a TAB between them: which of them is the value, and which KEY is beside it.
use Rattle.std.specs.Prelude.{ℕ, ◌≡◌, ◌⊎◌, ◌≤◌, ◌<◌, ◌+◌, ◌-◌, ◌==◌, if◌then◌else◌, false, List, [], ◌∷◌, ◌++◌, length, take, drop, Option, Some, None}
use Rattle.jser_records.specs.declared.layout.Lines.{Lines}
use Rattle.jser_records.specs.declared.parts.Parts.{Parts}
use Rattle.jser_records.specs.Arriving.{HasNone}
use Rattle.jser_records.specs.Keys.{key_if}

-- how many TABs are in a text
abbrev pub tabs_in : List ℕ → ℕ
tabs_in [] = 0
tabs_in (c ∷ text) = (if c == 0x09 then 1 else 0) + tabs_in text

-- A field of a line, what is before it, and what is behind it. No TAB is in it, and one is on each side of it, unless the line ends
-- there.
pub record IsField (line before field behind : List ℕ) : Type 0 where
  pub split : line ≡ before ++ (field ++ behind)
  pub none : HasNone 0x09 field
  pub begins : (before ≡ []) ⊎ ((front : List ℕ) × (before ≡ front ++ (0x09 ∷ [])))
  pub ends : (behind ≡ []) ⊎ ((rest : List ℕ) × (behind ≡ 0x09 ∷ rest))

-- it is the last one, or the one of this number, from 1
abbrev pub IsAsked : Option ℕ → (before behind : List ℕ) → Type 0
IsAsked None before behind = behind ≡ []
IsAsked (Some number) before behind = tabs_in before ≡ number - 1

-- the line has fewer fields
abbrev pub IsMissing : Option ℕ → (line : List ℕ) → Type 0
IsMissing None line = ⊥
IsMissing (Some number) line = tabs_in line < number - 1

-- The KEY beside a field: the line without the field and the TAB before it, or the TAB behind it where the field comes first.
abbrev pub KeyBeside : (before behind : List ℕ) → (key : Option (List ℕ)) → Type 0
KeyBeside before behind key =
    ((front : List ℕ) × (before ≡ front ++ (0x09 ∷ [])) × (key ≡ Some (front ++ behind)))
    ⊎ (((rest : List ℕ) × (before ≡ []) × (behind ≡ 0x09 ∷ rest) × (key ≡ Some rest)) ⊎ ((before ≡ []) × (behind ≡ []) × (key ≡ None)))

-- the field that is asked for, and the KEY beside it
pub record IsThere (asked : Option ℕ) (line before field behind : List ℕ) (key : Option (List ℕ)) : Type 0 where
  pub is_field : IsField line before field behind
  pub is_asked : IsAsked asked before behind
  pub is_key : KeyBeside before behind key

-- The value of a line, and its KEY. Where the field is not there, the value is empty, and all of the line is the KEY.
abbrev pub IsValue : Option ℕ → (line value : List ℕ) → (key : Option (List ℕ)) → Type 0
IsValue asked line value key =
    ((before : List ℕ) × (behind : List ℕ) × IsThere asked line before value behind key) ⊎ (IsMissing asked line × (value ≡ []) × (key ≡ key_if line))

-- a line without the carriage return at its end; where a NUL ends lines, it is a character as others are
abbrev pub IsBare : Lines → (line bare : List ℕ) → Type 0
IsBare lines line bare =
    ((lines.zero ≡ false) × (line ≡ bare ++ (0x0D ∷ []))) ⊎ ((bare ≡ line) × (lines.zero ≡ false → (front : List ℕ) → line ≡ front ++ (0x0D ∷ []) → ⊥))

-- ---- as it is read

-- the fields before the value end before it begins, and it ends within the line
pub record AreWithin (size : ℕ) (parts : Parts) : Type 0 where
  pub front : parts.front ≤ parts.from
  pub ordered : parts.from ≤ parts.to
  pub inside : parts.to ≤ size

-- the value between them, and the KEY beside it
abbrev pub part_of : List ℕ → Parts → List ℕ
part_of line parts = take (parts.to - parts.from) (drop parts.from line)

abbrev pub key_behind : List ℕ → Option (List ℕ)
key_behind [] = None
key_behind (c ∷ rest) = Some rest

abbrev pub key_of : List ℕ → Parts → Option (List ℕ)
key_of line parts = if parts.from == 0 then key_behind (drop parts.to line) else Some (take parts.front line ++ drop parts.to line)

-- these are the parts of a line, as its value is asked for
abbrev pub AreParts : Option ℕ → (line : List ℕ) → Parts → Type 0
AreParts asked line parts =
    IsThere asked line (take parts.from line) (part_of line parts) (drop parts.to line) (key_of line parts)
    ⊎ (IsMissing asked line × (part_of line parts ≡ []) × (key_of line parts ≡ key_if line) × (drop parts.to line ≡ []))

-- so many fields are before this place, each with the TAB behind it
pub record StartsAt (line : List ℕ) (from count : ℕ) : Type 0 where
  pub within : from ≤ length line
  pub tabs : tabs_in (take from line) ≡ count
  pub begins : (from ≡ 0) ⊎ ((0 < from) × (take from line ≡ take (from - 1) line ++ (0x09 ∷ [])))
