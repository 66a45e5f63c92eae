-- Where the class name stands in the bytes that is told beside an answer.
use Rattle.std.specs.Prelude.{ℕ, ◌≡◌, ◌⊎◌, ◌+◌, true, List, length, Some, None, IfSome}
use Rattle.jser_prim.specs.ModifiedUtf8.{IsUnits, modified_utf8}
use Rattle.jser_anywhere.specs.Standing.{StandsAt}
use Rattle.jser_check.specs.Passing.{passes_name}
use Rattle.jser_scan.specs.declared.check.Rules.{Rules}
use Rattle.jser_scan.specs.declared.found.Found.{Found}
use Rattle.jser_scan.specs.declared.found.Found.TheVariants as found
use Rattle.jser_scan.specs.Founds.{is_of_class, options_in}
use Rattle.jser_scan.specs.LastSeen.{StandsBetween}

-- The name beside a refusal is the text of the refused token: its bytes follow the two of its length, and end where the token
-- does. The name beside a hidden one is that of the class which can be read at the places that are told.
abbrev pub NameStands : List ℕ → Found → Type 0
NameStands bytes (found.Accepted totals) = Unit {0}
NameStands bytes (found.Refused refusal class) =
    IfSome class (λ units. StandsBetween bytes (refusal.from_byte + 2) refusal.to_byte (modified_utf8 units.items))
NameStands bytes (found.Hidden from to class) = IfSome class (λ units. StandsAt bytes from to units.items)
NameStands bytes found.NotOpened = Unit {0}
NameStands bytes (found.NotRead fault) = Unit {0}
NameStands bytes found.OutOfMemory = Unit {0}

-- The bytes of this token behind the two of its length spell no name that the filter refuses.
abbrev pub SpellsNone : Rules → List ℕ → (from to : ℕ) → Type 0
SpellsNone rules bytes from to =
    (units : List ℕ) → IsUnits units → StandsBetween bytes (from + 2) to (modified_utf8 units) → passes_name rules.filter (options_in rules) units ≡ true

-- Beside the refusal of a class its name is told: where none is, no name stands there that the filter refuses.
abbrev pub TellsName : Rules → List ℕ → Found → Type 0
TellsName rules bytes (found.Accepted totals) = Unit {0}
TellsName rules bytes (found.Refused refusal None) = is_of_class refusal.reason ≡ true → SpellsNone rules bytes refusal.from_byte refusal.to_byte
TellsName rules bytes (found.Refused refusal (Some units)) = Unit {0}
TellsName rules bytes (found.Hidden from to class) = Unit {0}
TellsName rules bytes found.NotOpened = Unit {0}
TellsName rules bytes (found.NotRead fault) = Unit {0}
TellsName rules bytes found.OutOfMemory = Unit {0}

-- a class that the filter lets pass can be read in just these bytes
pub record ReadsPassing (rules : Rules) (part : List ℕ) : Type 0 where
  pub units : List ℕ
  pub stands : StandsAt part 0 (length part) units
  pub passes : passes_name rules.filter (options_in rules) units ≡ true

-- From one place to the other no name can be read, or one whose class the filter lets pass.
abbrev pub HidesNone : Rules → List ℕ → (from to : ℕ) → Type 0
HidesNone rules bytes from to =
    (part : List ℕ) → StandsBetween bytes from to part → ((units : List ℕ) → StandsAt part 0 (length part) units → ⊥) ⊎ ReadsPassing rules part

-- Beside a hidden name its class is told.
abbrev pub TellsHidden : Rules → List ℕ → Found → Type 0
TellsHidden rules bytes (found.Accepted totals) = Unit {0}
TellsHidden rules bytes (found.Refused refusal class) = Unit {0}
TellsHidden rules bytes (found.Hidden from to None) = HidesNone rules bytes from to
TellsHidden rules bytes (found.Hidden from to (Some units)) = Unit {0}
TellsHidden rules bytes found.NotOpened = Unit {0}
TellsHidden rules bytes (found.NotRead fault) = Unit {0}
TellsHidden rules bytes found.OutOfMemory = Unit {0}
