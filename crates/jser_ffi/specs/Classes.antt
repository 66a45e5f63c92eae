-- The class name of an answer, as the program prints it: quoted.
use Rattle.std.specs.Prelude.{ℕ, ◌≡◌, ◌==◌, ◌-◌, ◌&&◌, nat_le, if◌then◌else◌, Bool, true, false, List, [], Option, Some, None, length, take, drop}
use Rattle.jser_prim.specs.ModifiedUtf8.{IsUnits, modified_utf8}
use Rattle.jser_anywhere.specs.Standing.{StandsAt}
use Rattle.jser_shown.specs.Words.{quoted}
use Rattle.jser_ffi.specs.declared.answer.Answer.{Answer}
use Rattle.jser_ffi.specs.Rooms.{Puts}

-- the bytes from one place to another, if they are there: they may be none, but no name ends at 0
abbrev pub part : List ℕ → (from to : ℕ) → Option (List ℕ)
part bytes from to = if nat_le 1 to && nat_le from to && nat_le to (length bytes) then Some (take (to - from) (drop from bytes)) else None

-- There are such bytes, and they are a name in modified UTF-8; or, of a hidden one, they begin with a name of this class, and end
-- with it.
abbrev pub IsClassOf : (hidden : Bool) → (text : Option (List ℕ)) → (units : List ℕ) → Type 0
IsClassOf hidden None units = ⊥
IsClassOf false (Some text) units = IsUnits units × (modified_utf8 units ≡ text)
IsClassOf true (Some text) units = StandsAt text 0 (length text) units

abbrev pub is_hidden : Answer → Bool
is_hidden answer = answer.reason == 26

-- these units are the class at the place that the answer names
abbrev pub IsNamedIn : (bytes : List ℕ) → Answer → (units : List ℕ) → Type 0
IsNamedIn bytes answer units = IsClassOf (is_hidden answer) (part bytes answer.name_from answer.name_to) units

-- the answer names no place at which a class is
abbrev pub NamesNone : (bytes : List ℕ) → Answer → Type 0
NamesNone bytes answer = (units : List ℕ) → IsNamedIn bytes answer units → ⊥

-- that class is in the room
pub record PutsClass (bytes : List ℕ) (answer : Answer) (old new : List ℕ) (told : Answer) : Type 0 where
  pub units : List ℕ
  pub named : IsNamedIn bytes answer units
  pub puts : Puts (quoted units []) old new told
