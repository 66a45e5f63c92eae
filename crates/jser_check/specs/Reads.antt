-- What the answers of the check of a source mean. `had` are the bytes that were to come from it before, if it tells them,
-- `has` those after.
use Rattle.std.specs.Prelude.{◌≡◌, ◌≢◌, ℕ, ◌+◌, ◌≤◌, Bool, true, List, [], ◌++◌, length, take, Option, IfSome, Result, Ok, Err}
use Rattle.std.specs.Io.KnownBytes.{Consumes, IsAtEnd}
use Rattle.jser_grammar.specs.Caps.{most_bytes}
use Rattle.jser_grammar.specs.Parts.{IsBytes}
use Rattle.jser_reader.specs.declared.Reason.TheVariants as reason
use Rattle.jser_reader.specs.declared.Refusal.{Refusal}
use Rattle.jser_reader.specs.declared.Stop.TheVariants as stop
use Rattle.jser_reader.specs.declared.Totals.{Totals}
use Rattle.jser_check.specs.Admitted.{gate_of_filter}
use Rattle.jser_check.specs.Answers.{CarriesFirst, Refuses}
use Rattle.jser_check.specs.Checks.{IsCut}
use Rattle.jser_check.specs.Sources.{TakesAtMost, read_bytes}
use Rattle.jser_anywhere.specs.Standing.{AllPass, IsFirstHidden}
use Rattle.jser_check.specs.Passing.{Asked, passes_in, AreAdmittedBy}
use Rattle.jser_check.specs.declared.fault.AnywhereFault.{AnywhereFault}
use Rattle.jser_check.specs.declared.fault.AnywhereFault.TheVariants as fault
use Rattle.jser_check.specs.Pieces.{ReportsBy, AreUndecided, NoneSooner, NoFaultBy, TellsFault, Checking, HasTaken}

-- A hidden name of these bytes, the first of them, and no fault of the check ends before it or with it, save that the bytes
-- end. No stream that begins with the bytes up to its end is admitted anywhere.
pub record HiddenIn (asked : Asked) (bytes : List ℕ) (from to : ℕ) : Type 0 where
  pub first : IsFirstHidden (passes_in asked) bytes from to
  pub sooner : NoFaultBy asked bytes to
  pub begins : (after : List ℕ) → AreAdmittedBy asked (take to bytes ++ after) → ⊥

-- The refusal is right of the bytes and names their first fault, and no hidden name ends before it; that the bytes end too
-- early is told where all names pass.
pub record RefusedIn (asked : Asked) (bytes : List ℕ) (refusal : Refusal) : Type 0 where
  pub right : Refuses asked.filter asked.options bytes refusal
  pub first : IsBytes bytes → CarriesFirst (gate_of_filter asked.filter asked.options) bytes refusal
  pub names : NoneSooner asked bytes refusal.to_byte
  pub cut : IsCut refusal → AllPass (passes_in asked) bytes

abbrev pub FaultOf : Asked → (bytes : List ℕ) → AnywhereFault → Type 0
FaultOf asked bytes (fault.Stop (stop.Refused refusal)) = RefusedIn asked bytes refusal
FaultOf asked bytes (fault.Stop stop.OutOfMemory) = Unit {0}
FaultOf asked bytes (fault.Stop stop.Spent) = ⊥
FaultOf asked bytes fault.ReadFault = Unit {0}
FaultOf asked bytes (fault.Hidden from to) = HiddenIn asked bytes from to

-- what a check answers of a source
abbrev pub SourceTells : Asked → (had : Option (List ℕ)) → Result Totals AnywhereFault → Type 0
SourceTells asked had (Ok report) = IfSome had (λ bytes. ReportsBy asked bytes report)
SourceTells asked had (Err why) = IfSome had (λ bytes. FaultOf asked bytes why)

-- the bytes that came decide nothing
pub record Undecided (asked : Asked) (had has : Option (List ℕ)) : Type 0 where
  pub bytes : List ℕ
  pub off : Consumes had has bytes
  pub are : AreUndecided asked bytes

-- where bytes are refused, though not for their end, no more bytes came than those that decide and the rest of a read
abbrev pub TakesFew : (had has : Option (List ℕ)) → Result Totals AnywhereFault → Type 0
TakesFew had has (Ok totals) = Unit {0}
TakesFew had has (Err (fault.Stop (stop.Refused refusal))) = refusal.reason ≢ reason.Truncated → TakesAtMost (refusal.to_byte + read_bytes) had has
TakesFew had has (Err (fault.Stop stop.OutOfMemory)) = Unit {0}
TakesFew had has (Err (fault.Stop stop.Spent)) = Unit {0}
TakesFew had has (Err fault.ReadFault) = Unit {0}
TakesFew had has (Err (fault.Hidden from to)) = TakesAtMost (to + read_bytes) had has

-- all of it
pub record Answered (asked : Asked) (had has : Option (List ℕ)) (result : Result Totals AnywhereFault) : Type 0 where
  pub tells : SourceTells asked had result
  pub undecided : result ≡ Err fault.ReadFault → Undecided asked had has
  pub unspent : result ≢ Err (fault.Stop stop.Spent)
  pub within : TakesAtMost (most_bytes + 1) had has
  pub prompt : TakesFew had has result

-- a read failed where that is the answer, and nowhere else
abbrev pub FailsWith : {X : Type 0} → Result X AnywhereFault → (failed_before failed_after : Bool) → Type 0
FailsWith (Ok x) failed_before failed_after = failed_after ≡ failed_before
FailsWith (Err (fault.Stop why)) failed_before failed_after = failed_after ≡ failed_before
FailsWith (Err (fault.Hidden from to)) failed_before failed_after = failed_after ≡ failed_before
FailsWith (Err fault.ReadFault) failed_before failed_after = failed_after ≡ true

-- ---- read by read

-- so many bytes came off, and the check took them
pub record Came (new : Checking) (taken : List ℕ) (had has : Option (List ℕ)) (count : ℕ) : Type 0 where
  pub bytes : List ℕ
  pub size : length bytes ≡ count
  pub off : Consumes had has bytes
  pub all : HasTaken new (taken ++ bytes)

-- it stopped in bytes that came off
pub record StopsIn (asked : Asked) (taken : List ℕ) (had has : Option (List ℕ)) (most : ℕ) (why : AnywhereFault) : Type 0 where
  pub bytes : List ℕ
  pub few : length bytes ≤ most
  pub off : Consumes had has bytes
  pub tells : TellsFault asked taken bytes why

-- one read
abbrev pub SomeTells : Asked → (taken : List ℕ) → Checking → (had has : Option (List ℕ)) → (most : ℕ) → Result ℕ AnywhereFault → Type 0
SomeTells asked taken new had has most (Ok count) = Came new taken had has count
SomeTells asked taken new had has most (Err fault.ReadFault) = Came new taken had has 0
SomeTells asked taken new had has most (Err (fault.Stop why)) = StopsIn asked taken had has most (fault.Stop why)
SomeTells asked taken new had has most (Err (fault.Hidden from to)) = StopsIn asked taken had has most (fault.Hidden from to)

-- it stopped in the last bytes that came off, those of one read
pub record Stopped (asked : Asked) (had has : Option (List ℕ)) (why : AnywhereFault) : Type 0 where
  pub before : List ℕ
  pub last : List ℕ
  pub few : length last ≤ read_bytes
  pub all : length before + length last ≤ most_bytes + 1
  pub off : Consumes had has (before ++ last)
  pub tells : TellsFault asked before last why

-- bytes came off, no more than a stream may have, and the check took them
pub record CameAll (new : Checking) (had has : Option (List ℕ)) : Type 0 where
  pub count : ℕ
  pub came : Came new [] had has count
  pub few : count ≤ most_bytes

-- read after read, to the end
abbrev pub WholeTells : Asked → Checking → (had has : Option (List ℕ)) → Result (Unit {0}) AnywhereFault → Type 0
WholeTells asked new had has (Ok _) = CameAll new had has × IsAtEnd has
WholeTells asked new had has (Err fault.ReadFault) = CameAll new had has
WholeTells asked new had has (Err (fault.Stop why)) = Stopped asked had has (fault.Stop why)
WholeTells asked new had has (Err (fault.Hidden from to)) = Stopped asked had has (fault.Hidden from to)

-- no hidden name is told where it asks about none
abbrev pub NamesOnly : (anywhere : Bool) → AnywhereFault → Type 0
NamesOnly anywhere (fault.Stop why) = Unit {0}
NamesOnly anywhere fault.ReadFault = Unit {0}
NamesOnly anywhere (fault.Hidden from to) = anywhere ≡ true
