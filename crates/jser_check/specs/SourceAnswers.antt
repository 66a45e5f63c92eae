-- What the answers of the check of a source mean. `had` are the bytes that were to come from it before, if it tells
-- them, `has` those after.
use Rattle.std.specs.Prelude.{◌≢◌, ℕ, ◌+◌, List, Option, Result, Ok, Err}
use Rattle.std.specs.Io.KnownBytes.{Consumes}
use Rattle.jser_verdict.specs.Gates.{Gate}
use Rattle.jser_reader.specs.declared.Reason.TheVariants as reason
use Rattle.jser_reader.specs.declared.Refusal.{Refusal}
use Rattle.jser_reader.specs.declared.Stop.TheVariants as stop
use Rattle.jser_check.specs.declared.answer.CheckFault.{CheckFault}
use Rattle.jser_check.specs.declared.answer.CheckFault.TheVariants as fault
use Rattle.jser_check.specs.Answers.{IfRefused, DecideNothing}
use Rattle.jser_check.specs.Sources.{read_bytes, TakesAtMost}

-- what holds of the refusal, where that is the fault; it is never that the reader was spent
abbrev pub IfFaultRefused : (Refusal → Type 0) → CheckFault → Type 0
IfFaultRefused P (fault.Stop why) = IfRefused P why
IfFaultRefused P fault.ReadFault = Unit {0}

-- the bytes that came decide no refusal
pub record Undecided (gate : Gate) (had has : Option (List ℕ)) : Type 0 where
  pub bytes : List ℕ
  pub off : Consumes had has bytes
  pub none : DecideNothing gate bytes

-- where bytes are refused, though not for their end, no more bytes came than those that decide and the rest of a read
abbrev pub TakesFew : (had has : Option (List ℕ)) → {X : Type 0} → Result X CheckFault → Type 0
TakesFew had has (Ok x) = Unit {0}
TakesFew had has (Err (fault.Stop (stop.Refused refusal))) =
    refusal.reason ≢ reason.Truncated → TakesAtMost (refusal.to_byte + read_bytes) had has
TakesFew had has (Err (fault.Stop stop.OutOfMemory)) = Unit {0}
TakesFew had has (Err (fault.Stop stop.Spent)) = Unit {0}
TakesFew had has (Err fault.ReadFault) = Unit {0}
