-- What the answers of a check in pieces that asks about names at any place mean.
use Rattle.std.specs.Prelude.{◌≡◌, ◌⊎◌, ℕ, ◌≤◌, ◌<◌, List, [], ◌++◌, length, Bool, true, false, Option, Some, None, IfSome, Result, Ok, Err}
use Rattle.jser_grammar.specs.Trees.{ContentTrees}
use Rattle.jser_verdict.specs.Reasons.{truncated}
use Rattle.jser_verdict.specs.Reasons.{Reason as ToldReason}
use Rattle.jser_verdict.specs.FirstFault.{IsFault}
use Rattle.jser_verdict.specs.Gates.{Gate}
use Rattle.jser_reader.specs.declared.Refusal.{Refusal}
use Rattle.jser_reader.specs.declared.Stop.TheVariants as stop
use Rattle.jser_reader.specs.declared.Totals.{Totals}
use Rattle.jser_reader.specs.Tallies.{AreTotals}
use Rattle.jser_reader.specs.ReaderStates.{Reading, StandsFor}
use Rattle.jser_filter.specs.Filters.{FilterView}
use Rattle.jser_check.specs.declared.gate.Options.{Options}
use Rattle.jser_check.specs.Admitted.{FilterWith, gate_of_filter}
use Rattle.jser_check.specs.Answers.{CarriesFirst, DecideNothing, Refuses}
use Rattle.jser_check.specs.Checks.{DecidesIn, IsCut}
use Rattle.jser_check.specs.Fronts.{IsFront, StaysFront}
use Rattle.jser_anywhere.specs.Standing.{HiddenAt, AllPass, IsFirstHidden}
use Rattle.jser_anywhere.specs.Steps.{Scanning}
use Rattle.jser_anywhere.specs.Scans.{HasScanned, TakesBytes}
use Rattle.jser_anywhere.specs.declared.Hidden.{Hidden}
use Rattle.jser_check.specs.Passing.{Asked, asking, passes_name, passes_in, IsAdmittedBy, AreAdmittedBy}
use Rattle.jser_check.specs.declared.fault.AnywhereFault.{AnywhereFault}
use Rattle.jser_check.specs.declared.fault.AnywhereFault.TheVariants as fault

-- some list is spelled by the bytes and admitted, with each name that stands anywhere where that is asked, and the report has
-- its counts
abbrev pub ReportsBy : Asked → List ℕ → Totals → Type 0
ReportsBy asked bytes report = (list : ContentTrees) × IsAdmittedBy asked bytes list × AreTotals bytes list report

abbrev pub ReportsAnywhere : FilterView → Options → List ℕ → Totals → Type 0
ReportsAnywhere filter options bytes report = ReportsBy (asking filter options true) bytes report

-- the bytes hold no fault but that they end, and no hidden name
pub record AreUndecided (asked : Asked) (bytes : List ℕ) : Type 0 where
  pub none : DecideNothing (gate_of_filter asked.filter asked.options) bytes
  pub pass : AllPass (passes_in asked) bytes

-- No hidden name ends before the refusal does: of equal ends the refusal is told.
abbrev pub NoneSooner : Asked → (bytes : List ℕ) → (end : ℕ) → Type 0
NoneSooner asked bytes end = (from to : ℕ) → HiddenAt (passes_in asked) bytes from to → end ≤ to

-- no fault of the check ends before this place or there, save that the bytes end
abbrev pub NoFaultBy : Asked → (bytes : List ℕ) → (to : ℕ) → Type 0
NoFaultBy asked bytes to = (at end : ℕ) (reason : ToldReason) → IsFault (gate_of_filter asked.filter asked.options) bytes at end reason → (reason ≡ truncated) ⊎ (to < end)

-- The bytes hold a hidden name, the first of them, and no fault of the check ends before it or with it, save that the
-- bytes end.
pub record TellsHidden (asked : Asked) (bytes : List ℕ) (from to : ℕ) : Type 0 where
  pub first : IsFirstHidden (passes_in asked) bytes from to
  pub sooner : NoFaultBy asked bytes to
  pub begins : (after : List ℕ) → AreAdmittedBy asked (bytes ++ after) → ⊥

-- the fault of a piece, after bytes that decide nothing
abbrev pub TellsFault : Asked → (taken piece : List ℕ) → AnywhereFault → Type 0
TellsFault asked taken piece (fault.Stop (stop.Refused refusal)) =
    DecidesIn asked.filter asked.options taken piece refusal × NoneSooner asked (taken ++ piece) refusal.to_byte
TellsFault asked taken piece (fault.Stop stop.OutOfMemory) = Unit {0}
TellsFault asked taken piece (fault.Stop stop.Spent) = ⊥
TellsFault asked taken piece fault.ReadFault = ⊥
TellsFault asked taken piece (fault.Hidden from to) = TellsHidden asked (taken ++ piece) from to × (length taken < to)

-- a check as contracts see it
pub record Checking : Type 0 where
  pub reader : Reading FilterWith
  pub scan : Option Scanning
  pub stopped : Option AnywhereFault

abbrev pub scans : Option Scanning → Bool
scans None = false
scans (Some scan) = true

abbrev pub asked_of : FilterWith → Option Scanning → Asked
asked_of gate scan = record { filter = gate.filter; options = gate.options; anywhere = scans scan }

-- what it asks
abbrev pub asked_by : Checking → Asked
asked_by check = asked_of check.reader.gate check.scan

-- the gate that it asks
abbrev pub gate_in : Checking → Gate
gate_in check = gate_of_filter check.reader.gate.filter check.reader.gate.options

-- what a scan tells of a piece, where there is one
abbrev pub MayScan : FilterWith → (old new : Option Scanning) → (piece : List ℕ) → Option Hidden → Type 0
MayScan gate None None piece hidden = hidden ≡ None
MayScan gate None (Some new) piece hidden = ⊥
MayScan gate (Some old) None piece hidden = ⊥
MayScan gate (Some old) (Some new) piece hidden = TakesBytes (passes_name gate.filter gate.options) old new piece hidden

-- It took these bytes, which decide nothing.
pub record HasTaken (check : Checking) (taken : List ℕ) : Type 0 where
  pub stands : StandsFor (gate_of_filter check.reader.gate.filter check.reader.gate.options) taken check.reader.machine check.reader.tally
  pub scanned : IfSome check.scan (HasScanned (passes_in (asked_by check)) taken)
  pub going : check.stopped ≡ None

-- what a piece makes of it
abbrev pub PieceTells : Asked → (taken piece : List ℕ) → Option AnywhereFault → Checking → Type 0
PieceTells asked taken piece None new = HasTaken new (taken ++ piece)
PieceTells asked taken piece (Some why) new = TellsFault asked taken piece why

abbrev pub FeedTells : Asked → (taken piece : List ℕ) → Result (Unit {0}) AnywhereFault → Checking → Type 0
FeedTells asked taken piece (Ok _) new = HasTaken new (taken ++ piece)
FeedTells asked taken piece (Err why) new = TellsFault asked taken piece why

-- what holds of a check that was decided: memory did not run out
abbrev pub IfDecided : Type 0 → AnywhereFault → Type 0
IfDecided P (fault.Stop (stop.Refused refusal)) = P
IfDecided P (fault.Stop stop.OutOfMemory) = Unit {0}
IfDecided P (fault.Stop stop.Spent) = Unit {0}
IfDecided P fault.ReadFault = Unit {0}
IfDecided P (fault.Hidden from to) = P

-- the longest front, where a check was decided; after a refusal it is that whatever bytes come
abbrev pub FrontBy : FilterView → Options → List ℕ → ℕ → AnywhereFault → Type 0
FrontBy filter options bytes n (fault.Stop (stop.Refused refusal)) = StaysFront filter options bytes n
FrontBy filter options bytes n (fault.Stop stop.OutOfMemory) = Unit {0}
FrontBy filter options bytes n (fault.Stop stop.Spent) = Unit {0}
FrontBy filter options bytes n fault.ReadFault = Unit {0}
FrontBy filter options bytes n (fault.Hidden from to) = IsFront filter options bytes n

-- a check in pieces stops so: at a hidden name where it asks about names alone, and at no read
abbrev pub Keeps : (anywhere : Bool) → AnywhereFault → Type 0
Keeps anywhere (fault.Stop why) = Unit {0}
Keeps anywhere fault.ReadFault = ⊥
Keeps anywhere (fault.Hidden from to) = anywhere ≡ true

abbrev pub KeepsTo : (anywhere : Bool) → Option AnywhereFault → Type 0
KeepsTo anywhere None = Unit {0}
KeepsTo anywhere (Some why) = Keeps anywhere why

-- what is answered at the end of the bytes: they end too early, and all names pass
pub record CutBy (asked : Asked) (bytes : List ℕ) (refusal : Refusal) : Type 0 where
  pub right : Refuses asked.filter asked.options bytes refusal
  pub first : CarriesFirst (gate_of_filter asked.filter asked.options) bytes refusal
  pub cut : IsCut refusal
  pub passes : AllPass (passes_in asked) bytes

abbrev pub EndTells : Asked → (taken : List ℕ) → Result Totals AnywhereFault → Type 0
EndTells asked taken (Ok report) = ReportsBy asked taken report
EndTells asked taken (Err (fault.Stop (stop.Refused refusal))) = CutBy asked taken refusal
EndTells asked taken (Err (fault.Stop stop.OutOfMemory)) = ⊥
EndTells asked taken (Err (fault.Stop stop.Spent)) = ⊥
EndTells asked taken (Err fault.ReadFault) = ⊥
EndTells asked taken (Err (fault.Hidden from to)) = ⊥

-- what a check that has taken nothing answers to all bytes: a byte of them decides, or they end
abbrev pub AnswerTells : Asked → (bytes : List ℕ) → Result Totals AnywhereFault → Type 0
AnswerTells asked bytes (Ok report) = ReportsBy asked bytes report
AnswerTells asked bytes (Err why) = TellsFault asked [] bytes why ⊎ EndTells asked bytes (Err why)

-- the longest front, where memory did not run out
abbrev pub FrontAfter : FilterView → Options → List ℕ → ℕ → Result Totals AnywhereFault → Type 0
FrontAfter filter options bytes n (Ok report) = IsFront filter options bytes n
FrontAfter filter options bytes n (Err why) = IfDecided (IsFront filter options bytes n) why
