-- All names that stand in some bytes, one after another: by their places, and at one place by their ends.
use Rattle.std.specs.Prelude.{◌≡◌, ℕ, zero, suc, ◌+◌, ◌*◌, ◌==◌, ◌&&◌, ◌⊎◌, if◌then◌else◌, List, [], ◌∷◌, ◌++◌, drop, Option, Some, None}
use Rattle.jser_anywhere.specs.Names.{core}
use Rattle.jser_anywhere.specs.Search.{text_of, text_end}
use Rattle.jser_anywhere.specs.Standing.{StandsAt}
use Rattle.jser_anywhere.specs.declared.names.Stand.{Stand}
use Rattle.jser_anywhere.specs.declared.names.RowHead.{RowHead}

-- a name: the place of its 72 or 7D, the place of its length, the end of its text, the units of that, and the class that it names
pub record Named : Type 0 where
  pub from : ℕ
  pub at : ℕ
  pub to : ℕ
  pub text : List ℕ
  pub units : List ℕ

-- a name, if the text is one, and those behind it
abbrev pub named_or : (from at to : ℕ) → (later : List Named) → (text : List ℕ) → Option (List ℕ) → List Named
named_or from at to later text None = later
named_or from at to later text (Some units) = record { from = from; at = at; to = to; text = text; units = units } ∷ later

abbrev pub named_then : (from at to : ℕ) → (later : List Named) → Option (List ℕ) → List Named
named_then from at to later None = []
named_then from at to later (Some text) = named_or from at to later text (core text)

-- of at most so many one after another, which begin at a place behind that of their mark
abbrev pub row_names : (from : ℕ) → ℕ → (at : ℕ) → List ℕ → List Named
row_names from zero at bytes = []
row_names from (suc most) at bytes =
    named_then from at (at + text_end bytes) (row_names from most (at + text_end bytes) (drop (text_end bytes) bytes)) (text_of bytes)

-- Where names may stand at the head of these bytes: behind 72 one, behind 7D as many as the count says.
abbrev pub no_row : RowHead
no_row = record { head = 0; most = 0 }

abbrev pub interface_row : List ℕ → RowHead
interface_row (first ∷ second ∷ high ∷ low ∷ rest) =
    if first == 0 && second == 0 then record { head = 5; most = high * 256 + low } else no_row
interface_row _ = no_row

unfoldable pub row_of : List ℕ → RowHead
row_of [] = no_row
row_of (mark ∷ rest) =
    if mark == 0x72 then record { head = 1; most = 1 } else (if mark == 0x7D then interface_row rest else no_row)

-- the names that stand there
abbrev pub names_at : (from : ℕ) → RowHead → List ℕ → List Named
names_at from row bytes = row_names from row.most (from + row.head) (drop row.head bytes)

-- those that stand anywhere in these bytes, which begin at a place
unfoldable pub names_in : (place : ℕ) → List ℕ → List Named
names_in place [] = []
names_in place (b ∷ bytes) = names_at place (row_of (b ∷ bytes)) (b ∷ bytes) ++ names_in (place + 1) bytes

-- how far the names were told: the place to look at next, the row that is being told, and the text that was read last
pub record Telling : Type 0 where
  pub bytes : List ℕ
  pub next : ℕ
  pub from : ℕ
  pub left : ℕ
  pub at : ℕ
  pub last : List ℕ

-- the class that a text names, or nothing
abbrev pub class_or_none : Option (List ℕ) → List ℕ
class_or_none None = []
class_or_none (Some units) = units

abbrev pub class_in : List ℕ → List ℕ
class_in text = class_or_none (core text)

-- the names that were not told yet
abbrev pub untold : Telling → List Named
untold t = row_names t.from t.left t.at (drop t.at t.bytes) ++ names_in t.next (drop t.next t.bytes)

-- the next name is told, if there is one
abbrev pub TellsNext : Telling → Option Stand → Telling → Type 0
TellsNext old None new = untold old ≡ []
TellsNext old (Some found) new = untold old ≡ record { from = found.from; at = found.at; to = found.to; text = new.last; units = class_in new.last } ∷ untold new

-- a name with these units, at this place and with this end, is one of them
abbrev pub IsNamed : (from to : ℕ) → (units : List ℕ) → List Named → Type 0
IsNamed from to units [] = ⊥
IsNamed from to units (name ∷ names) = ((name.from ≡ from) × (name.to ≡ to) × (name.units ≡ units)) ⊎ IsNamed from to units names

-- each of them stands, and each that stands is one of them
abbrev pub NamesStand : Type 0
NamesStand = (bytes : List ℕ) (from to : ℕ) (units : List ℕ) → IsNamed from to units (names_in 0 bytes) → StandsAt bytes from to units

abbrev pub AllAreNamed : Type 0
AllAreNamed = (bytes : List ℕ) (from to : ℕ) (units : List ℕ) → StandsAt bytes from to units → IsNamed from to units (names_in 0 bytes)
