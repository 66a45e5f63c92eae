-- A line that is read stretch by stretch: where reading is in the bytes that came of it, and that the KEY and the value of these are
-- kept.
use Rattle.std.specs.Prelude.{ℕ, ◌≡◌, ◌≢◌, ◌⊎◌, ◌≤◌, ◌<◌, ◌+◌, List, [], ◌∷◌, ◌++◌, length, Option, Some, None}
use Rattle.jser_records.specs.declared.current.Record.{Record}
use Rattle.jser_records.specs.declared.layout.Lines.{Lines}
use Rattle.jser_records.specs.declared.layout.Spelling.{Spelling}
use Rattle.jser_records.specs.declared.lines.Stretch.{Stretch}
use Rattle.jser_records.specs.declared.lines.Stretch.TheVariants as stretch
use Rattle.jser_records.specs.declared.reading.Reading.{Reading}
use Rattle.jser_records.specs.Arriving.{Arriving, room_size}
use Rattle.jser_records.specs.Fields.{IsBare, IsMissing, IsThere, IsValue}
use Rattle.jser_records.specs.Keys.{HasLostKey, IsKeyOf, most_key}
use Rattle.jser_records.specs.Readings.{Came, HasStopped, IsCounted, value_in}

-- these bytes of a line have a value, with so much behind it: it came, and the KEY beside it is kept
pub record IsIn (written : Spelling) (asked : Option ℕ) (line behind : List ℕ) (r : Reading) : Type 0 where
  pub before : List ℕ
  pub field : List ℕ
  pub named : Option (List ℕ)
  pub there : IsThere asked line before field behind named
  pub kept : IsKeyOf r.key named
  pub came : IsCounted written.form line → Came r (value_in written field)
  pub stopped : HasLostKey r.key → HasStopped r

-- the value is not in the first bytes of the line, and these are too long for a KEY
pub record IsLate (asked : Option ℕ) (line : List ℕ) (r : Reading) : Type 0 where
  pub first : List ℕ
  pub rest : List ℕ
  pub split : line ≡ first ++ rest
  pub missing : IsMissing asked first
  pub long : most_key < length first
  pub lost : HasLostKey r.key
  pub stopped : HasStopped r

-- these bytes end in the value, or behind it
abbrev pub InStretch : Stretch → Spelling → (asked : Option ℕ) → (line : List ℕ) → Reading → Type 0
InStretch stretch.LastValue written None line r = IsIn written None line [] r
InStretch stretch.LastValue written (Some number) line r = ⊥
InStretch stretch.Value written None line r = ⊥
InStretch stretch.Value written (Some number) line r = IsIn written (Some number) line [] r ⊎ IsLate (Some number) line r
InStretch stretch.Behind written None line r = ⊥
InStretch stretch.Behind written (Some number) line r = ((rest : List ℕ) × IsIn written (Some number) line (0x09 ∷ rest) r) ⊎ IsLate (Some number) line r

-- in the value
abbrev pub value_stretch : Option ℕ → Stretch
value_stretch None = stretch.LastValue
value_stretch (Some number) = stretch.Value

-- they are a whole line: its value came, and its KEY is kept
pub record IsNamed (written : Spelling) (asked : Option ℕ) (line : List ℕ) (r : Reading) : Type 0 where
  pub field : List ℕ
  pub named : Option (List ℕ)
  pub is_value : IsValue asked line field named
  pub kept : IsKeyOf r.key named
  pub came : IsCounted written.form line → Came r (value_in written field)
  pub stopped : HasLostKey r.key → HasStopped r

pub record LineNamed (lines : Lines) (text : List ℕ) (r : Reading) : Type 0 where
  pub bare : List ℕ
  pub is_bare : IsBare lines text bare
  pub named : IsNamed lines.spelling lines.field bare r

-- the last piece of a line came behind these bytes
pub record PieceEnds (lines : Lines) (line piece : List ℕ) (r : Reading) : Type 0 where
  pub bare : List ℕ
  pub is_bare : IsBare lines piece bare
  pub named : IsNamed lines.spelling lines.field (line ++ bare) r

-- no `\n` of two characters is cut in two by what comes behind these bytes
abbrev pub IsApart : (line text : List ℕ) → Type 0
IsApart line text = (front rest : List ℕ) → line ≡ front ++ (0x5C ∷ []) → text ≡ 0x6E ∷ rest → ⊥

-- another byte than this one waits
abbrev pub GoesOn : (byte : ℕ) → (waiting : List ℕ) → Type 0
GoesOn byte waiting = (c : ℕ) × (rest : List ℕ) × (waiting ≡ c ∷ rest) × (c ≢ byte)

-- So many bytes came as there is room for. A carriage return at their end is not the one at the end of the line, and a backslash there
-- is not the first of two characters that belong together.
pub record IsOn (lines : Lines) (end : ℕ) (s : Stretch) (line : List ℕ) (at : Arriving) (r : Record) : Type 0 where
  pub long : room_size ≤ length line + 1
  pub is_in : InStretch s lines.spelling lines.field line r.reading
  pub whole : (front : List ℕ) → line ≡ front ++ (0x0D ∷ []) → GoesOn end at.waiting
  pub apart : (front : List ℕ) → line ≡ front ++ (0x5C ∷ []) → GoesOn 0x6E at.waiting
