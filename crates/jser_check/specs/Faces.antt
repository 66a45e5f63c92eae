-- What a check that asks about no other names answers, in words of the plain check.
use Rattle.std.specs.Prelude.{◌≡◌, Some, Result, Ok, Err}
use Rattle.jser_reader.specs.declared.Refusal.{Refusal}
use Rattle.jser_reader.specs.declared.Stop.{Stop}
use Rattle.jser_reader.specs.declared.Stop.TheVariants as stop
use Rattle.jser_reader.specs.declared.Totals.{Totals}
use Rattle.jser_check.specs.declared.answer.CheckFault.{CheckFault}
use Rattle.jser_check.specs.declared.answer.CheckFault.TheVariants as plain
use Rattle.jser_check.specs.declared.fault.AnywhereFault.{AnywhereFault}
use Rattle.jser_check.specs.declared.fault.AnywhereFault.TheVariants as fault
use Rattle.jser_check.specs.Pieces.{Checking}
use Rattle.jser_check.specs.Joins.{repeated}

-- it answers this refusal to each call, until it is restarted
abbrev pub Repeats : Checking → Refusal → Type 0
Repeats check refusal = check.stopped ≡ Some (fault.Stop (stop.Refused refusal))

-- it answers Spent to each call, until it is restarted
abbrev pub IsOver : Checking → Type 0
IsOver check = check.stopped ≡ Some (fault.Stop stop.Spent)

-- what it answers from now on that has answered this: the same refusal, or Spent
abbrev pub Stopped : Stop → Checking → Type 0
Stopped why check = check.stopped ≡ Some (repeated (fault.Stop why))

-- after the end: Spent where the bytes were a stream
abbrev pub Ended : Result Totals Stop → Checking → Type 0
Ended (Ok totals) check = IsOver check
Ended (Err why) check = Stopped why check

-- the answer of the one check that this is a face of
abbrev pub as_stop : {X : Type 0} → Result X Stop → Result X AnywhereFault
as_stop (Ok x) = Ok x
as_stop (Err why) = Err (fault.Stop why)

abbrev pub as_plain : Result Totals CheckFault → Result Totals AnywhereFault
as_plain (Ok totals) = Ok totals
as_plain (Err (plain.Stop why)) = Err (fault.Stop why)
as_plain (Err plain.ReadFault) = Err fault.ReadFault
