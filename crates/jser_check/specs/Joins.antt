-- Which of two answers is the first fault.
use Rattle.std.specs.Prelude.{nat_lt, if◌then◌else◌, Option, Some, None, Result, Ok, Err}
use Rattle.jser_reader.specs.declared.Refusal.{Refusal}
use Rattle.jser_reader.specs.declared.Stop.{Stop}
use Rattle.jser_reader.specs.declared.Stop.TheVariants as stop
use Rattle.jser_reader.specs.declared.Totals.{Totals}
use Rattle.jser_anywhere.specs.declared.Hidden.{Hidden}
use Rattle.jser_check.specs.declared.fault.AnywhereFault.{AnywhereFault}
use Rattle.jser_check.specs.declared.fault.AnywhereFault.TheVariants as fault

-- a refusal of the check and a hidden name: that with the lesser end, and of equal ends the refusal
abbrev pub sooner_of : Refusal → Option Hidden → AnywhereFault
sooner_of refusal None = fault.Stop (stop.Refused refusal)
sooner_of refusal (Some hidden) = if nat_lt hidden.to refusal.to_byte then fault.Hidden hidden.from hidden.to else fault.Stop (stop.Refused refusal)

abbrev pub first_of : Result (Unit {0}) Stop → Option Hidden → Option AnywhereFault
first_of (Ok _) None = None
first_of (Ok _) (Some hidden) = Some (fault.Hidden hidden.from hidden.to)
first_of (Err (stop.Refused refusal)) hidden = Some (sooner_of refusal hidden)
first_of (Err stop.OutOfMemory) hidden = Some (fault.Stop stop.OutOfMemory)
first_of (Err stop.Spent) hidden = Some (fault.Stop stop.Spent)

-- what is answered after a fault
abbrev pub repeated : AnywhereFault → AnywhereFault
repeated (fault.Stop stop.OutOfMemory) = fault.Stop stop.Spent
repeated (fault.Stop stop.Spent) = fault.Stop stop.Spent
repeated (fault.Stop (stop.Refused refusal)) = fault.Stop (stop.Refused refusal)
repeated fault.ReadFault = fault.ReadFault
repeated (fault.Hidden from to) = fault.Hidden from to

-- and after the end: Spent where the bytes were a stream
abbrev pub over : Result Totals AnywhereFault → AnywhereFault
over (Ok totals) = fault.Stop stop.Spent
over (Err why) = repeated why
