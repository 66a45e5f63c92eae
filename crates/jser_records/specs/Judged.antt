-- What a check of one record after another took, and what is found is right of these bytes.
use Rattle.std.specs.Prelude.{ℕ, ◌≡◌, ◌<◌, ◌^◌, Bool, true, false, List, ◌++◌, length, Option, Some, None, Result, Ok, Err}
use Rattle.jser_reader.specs.declared.Stop.TheVariants as stop
use Rattle.jser_reader.specs.declared.Totals.{Totals}
use Rattle.jser_reader.specs.ReaderStates.{StandsFor}
use Rattle.jser_check.specs.Admitted.{FilterWith, gate_of_filter}
use Rattle.jser_check.specs.Answers.{Refuses, Reports}
use Rattle.jser_check.specs.Passing.{asking}
use Rattle.jser_check.specs.Pieces.{HasTaken, ReportsAnywhere, asked_by}
use Rattle.jser_check.specs.Reads.{FaultOf}
use Rattle.jser_check.specs.declared.AnywhereFault.{AnywhereFault}
use Rattle.jser_check.specs.declared.AnywhereFault.TheVariants as fault
use Rattle.jser_scan.specs.declared.Found.{Found}
use Rattle.jser_scan.specs.declared.Found.TheVariants as found
use Rattle.jser_scan.specs.declared.Rules.{Rules}
use Rattle.jser_scan.specs.Founds.{IsFound, options_in}
use Rattle.jser_scan.specs.LastSeen.{AreLast, LastSeen}
use Rattle.jser_scan.specs.Lines.{is_accepted}
use Rattle.jser_scan.specs.NamePlaces.{NameStands}
use Rattle.jser_records.specs.declared.judge.Check.{Check}
use Rattle.jser_records.specs.declared.judge.Check.TheVariants as check

-- the filter with the options of these rules
abbrev pub filter_in : Rules → FilterWith
filter_in rules = record { filter = rules.filter; options = options_in rules }

-- it is a check under these rules
abbrev pub IsUnder : Rules → Check → Type 0
IsUnder rules (check.Plain reader) = (rules.anywhere ≡ false) × (reader.gate ≡ filter_in rules)
IsUnder rules (check.Anywhere checker) = (rules.anywhere ≡ true) × (asked_by checker ≡ asking rules.filter (options_in rules) true)

-- it took these bytes, which decide nothing
abbrev pub Took : Rules → Check → List ℕ → Type 0
Took rules (check.Plain reader) bytes = StandsFor (gate_of_filter rules.filter (options_in rules)) bytes reader.machine reader.tally
Took rules (check.Anywhere checker) bytes = HasTaken checker bytes

-- ---- what stops a check of these bytes

abbrev pub PlainFault : Rules → List ℕ → AnywhereFault → Type 0
PlainFault rules bytes (fault.Stop (stop.Refused refusal)) = Refuses rules.filter (options_in rules) bytes refusal
PlainFault rules bytes (fault.Stop stop.OutOfMemory) = Unit {0}
PlainFault rules bytes (fault.Stop stop.Spent) = ⊥
PlainFault rules bytes fault.ReadFault = ⊥
PlainFault rules bytes (fault.Hidden from to) = ⊥

abbrev pub FaultIf : (anywhere : Bool) → Rules → List ℕ → AnywhereFault → Type 0
FaultIf false rules bytes why = PlainFault rules bytes why
FaultIf true rules bytes why = FaultOf (asking rules.filter (options_in rules) true) bytes why

abbrev pub ReportsIf : (anywhere : Bool) → Rules → List ℕ → Totals → Type 0
ReportsIf false rules bytes totals = Reports rules.filter (options_in rules) bytes totals
ReportsIf true rules bytes totals = ReportsAnywhere rules.filter (options_in rules) bytes totals

-- a piece was taken; or it stopped there, and that is right of all bytes that begin so
abbrev pub Feeds : Rules → Check → (taken piece : List ℕ) → Result (Unit {0}) AnywhereFault → Type 0
Feeds rules new taken piece (Ok _) = Took rules new (taken ++ piece)
Feeds rules new taken piece (Err why) = (more : List ℕ) → FaultIf rules.anywhere rules ((taken ++ piece) ++ more) why

-- the end of the bytes
abbrev pub Ends : Rules → (taken : List ℕ) → Result Totals AnywhereFault → Type 0
Ends rules taken (Ok totals) = ReportsIf rules.anywhere rules taken totals
Ends rules taken (Err why) = FaultIf rules.anywhere rules taken why

-- ---- a record

-- the rules, the check under them, and the last bytes that it took
pub record Judging : Type 0 where
  pub rules : Rules
  pub check : Check
  pub last : LastSeen

-- it took these bytes of a record, and keeps the last of them
pub record HasJudged (judge : Judging) (bytes : List ℕ) : Type 0 where
  pub took : Took judge.rules judge.check bytes
  pub last : AreLast judge.last bytes

-- a class name that is told stands in the first ones of the bytes
pub record HasName (bytes : List ℕ) (result : Found) : Type 0 where
  pub first : List ℕ
  pub rest : List ℕ
  pub split : bytes ≡ first ++ rest
  pub stands : length first < 2 ^ 64 → NameStands first result

-- it is what a check finds: not that a text is wrong
abbrev pub IsRead : Found → Type 0
IsRead (found.Accepted totals) = Unit {0}
IsRead (found.Refused refusal class) = Unit {0}
IsRead (found.Hidden from to class) = Unit {0}
IsRead found.NotOpened = Unit {0}
IsRead (found.NotRead why) = ⊥
IsRead found.OutOfMemory = Unit {0}

-- what is found is what the check of these bytes answers
pub record IsSound (rules : Rules) (bytes : List ℕ) (result : Found) : Type 0 where
  pub found : IsFound rules bytes result
  pub name : HasName bytes result

-- what a piece makes of it: what is found stands whatever comes behind, so it is no yes
pub record IsDecided (rules : Rules) (bytes : List ℕ) (result : Found) : Type 0 where
  pub sound : (more : List ℕ) → IsSound rules (bytes ++ more) result
  pub refuses : is_accepted result ≡ false

abbrev pub FeedFinds : (new : Judging) → (taken piece : List ℕ) → Option Found → Type 0
FeedFinds new taken piece None = HasJudged new (taken ++ piece)
FeedFinds new taken piece (Some result) = IsDecided new.rules (taken ++ piece) result
