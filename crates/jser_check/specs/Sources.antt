-- What reading does to the bytes that a source tells are still to come. `had` are the bytes that were to come before, `has`
-- those after.
use Rattle.std.specs.Prelude.{◌≡◌, ℕ, ◌<◌, ◌≤◌, Bool, true, List, length, Option, Result, Ok, Err}
use Rattle.std.specs.Io.KnownBytes.{Consumes}
use Rattle.jser_check.specs.declared.answer.CheckFault.{CheckFault}
use Rattle.jser_check.specs.declared.answer.CheckFault.TheVariants as fault

-- how many bytes a read asks for at most
abbrev pub read_bytes : ℕ
read_bytes = 57344

-- room of this size is enough for a read, and not more than one may ask for
abbrev pub IsRoom : ℕ → Type 0
IsRoom size = (0 < size) × (size ≤ read_bytes)

-- at most so many bytes came from the source
pub record TakesAtMost (most : ℕ) (had has : Option (List ℕ)) : Type 0 where
  pub bytes : List ℕ
  pub few : length bytes ≤ most
  pub off : Consumes had has bytes

-- a read failed where that is the answer, and nowhere else
abbrev pub FailsWith : {X : Type 0} → Result X CheckFault → (failed_before failed_after : Bool) → Type 0
FailsWith (Ok x) failed_before failed_after = failed_after ≡ failed_before
FailsWith (Err (fault.Stop why)) failed_before failed_after = failed_after ≡ failed_before
FailsWith (Err fault.ReadFault) failed_before failed_after = failed_after ≡ true
