-- What the numbers of an answer to a check mean.
use Rattle.std.specs.Prelude.{ℕ, ◌≡◌, ◌≢◌, ◌⊎◌, ◌+◌, ◌==◌, ◌||◌, if◌then◌else◌, min, List, ◌++◌, ◌<◌, length, Result, Ok, Err}
use Rattle.jser_reader.specs.declared.Reason.{Reason}
use Rattle.jser_reader.specs.declared.Reason.TheVariants as reason
use Rattle.jser_reader.specs.declared.Refusal.{Refusal}
use Rattle.jser_reader.specs.declared.Stop.TheVariants as stop
use Rattle.jser_reader.specs.declared.Totals.{Totals}
use Rattle.jser_filter.specs.Filters.{FilterView}
use Rattle.jser_check.specs.declared.Options.{Options}
use Rattle.jser_check.specs.Admitted.{gate_of_filter}
use Rattle.jser_check.specs.Answers.{Refuses, CarriesFirst}
use Rattle.jser_check.specs.Checks.{DecidesIn, IsCut}
use Rattle.jser_check.specs.Fronts.{IsFront}
use Rattle.jser_anywhere.specs.Standing.{AllPass}
use Rattle.jser_check.specs.Passing.{Asked, asking, passes_in}
use Rattle.jser_check.specs.declared.AnywhereFault.{AnywhereFault}
use Rattle.jser_check.specs.declared.AnywhereFault.TheVariants as fault
use Rattle.jser_check.specs.Pieces.{Checking, HasTaken, NoneSooner, ReportsBy, TellsHidden}
use Rattle.jser_ffi.specs.declared.answer.Answer.{Answer}
use Rattle.jser_ffi.specs.declared.compiled.Compiled.{Compiled}
use Rattle.jser_ffi.specs.Compiling.{IsCompiled}

-- ---- the numbers

abbrev pub reason_number : Reason → ℕ
reason_number reason.BytesExceeded = 1
reason_number reason.BadHeader = 2
reason_number reason.BadTag = 3
reason_number reason.ExceptionTag = 4
reason_number reason.ResetInside = 5
reason_number reason.BadText = 6
reason_number reason.NegativeLength = 7
reason_number reason.BadTypeCode = 8
reason_number reason.FieldOrder = 9
reason_number reason.BadFlags = 10
reason_number reason.NullClass = 11
reason_number reason.NoSuchHandle = 12
reason_number reason.WrongKind = 13
reason_number reason.OpenDescriptor = 14
reason_number reason.BadArrayName = 15
reason_number reason.WrongClass = 16
reason_number reason.ExternalRaw = 17
reason_number reason.NotSerializable = 18
reason_number reason.ClassRejected = 19
reason_number reason.ClassUnmatched = 20
reason_number reason.DepthExceeded = 21
reason_number reason.RefsExceeded = 22
reason_number reason.ArrayExceeded = 23
reason_number reason.Truncated = 24
reason_number reason.HandleSpace = 25

-- the counts in an answer
abbrev pub report_in : Answer → Totals
report_in answer =
    record { bytes = answer.bytes; contents = answer.contents; refs = answer.refs; depth = answer.depth; handles = answer.handles }

-- the refusal in an answer, for a reason
abbrev pub refusal_in : Answer → Reason → Refusal
refusal_in answer why = record { from_byte = answer.from_byte; to_byte = answer.to_byte; reason = why }

-- the answer has the refusal
pub record HasRefusal (answer : Answer) (refusal : Refusal) : Type 0 where
  pub status : answer.status ≡ 1
  pub number : answer.reason ≡ reason_number refusal.reason
  pub same : refusal_in answer refusal.reason ≡ refusal

-- the answer has the counts
pub record HasReport (answer : Answer) (report : Totals) : Type 0 where
  pub status : answer.status ≡ 0
  pub same : report_in answer ≡ report

-- the answer has the place of a hidden name
pub record HasHidden (answer : Answer) (from to : ℕ) : Type 0 where
  pub status : answer.status ≡ 1
  pub number : answer.reason ≡ 26
  pub begins : answer.from_byte ≡ from
  pub ends : answer.to_byte ≡ to

-- the answer to a fault
abbrev pub HasFault : Answer → AnywhereFault → Type 0
HasFault answer (fault.Stop (stop.Refused refusal)) = HasRefusal answer refusal
HasFault answer (fault.Stop stop.OutOfMemory) = answer.status ≡ 3
HasFault answer (fault.Stop stop.Spent) = answer.status ≡ 5
HasFault answer fault.ReadFault = answer.status ≡ 5
HasFault answer (fault.Hidden from to) = HasHidden answer from to

-- the answer to what a check answers of all bytes
abbrev pub HasAnswer : Answer → Result Totals AnywhereFault → Type 0
HasAnswer answer (Ok report) = HasReport answer report
HasAnswer answer (Err why) = HasFault answer why

-- ---- what a status does not speak of is 0

-- the answer of a status alone
abbrev pub bare_answer : (status : ℕ) → Answer
bare_answer status =
    record { status = status; reason = 0; from_byte = 0; to_byte = 0; bytes = 0; contents = 0; refs = 0; depth = 0; handles = 0; name_from = 0; name_to = 0; whole = 0 }

-- no counts behind that of the bytes
abbrev pub NoCounts : Answer → Type 0
NoCounts answer = (answer.contents ≡ 0) × (answer.refs ≡ 0) × (answer.depth ≡ 0) × (answer.handles ≡ 0)

-- Where the class name stands that was not let pass: of a refused class (19, 20) behind the two bytes of its length, and of a
-- hidden name (26) the place found. There is none elsewhere.
abbrev pub name_by : (reason from to : ℕ) → ℕ × ℕ
name_by reason from to = if reason == 19 || reason == 20 then (min (from + 2) to, to) else (if reason == 26 then (from, to) else (0, 0))

abbrev pub name_place : Answer → ℕ × ℕ
name_place answer = if answer.status == 1 then name_by answer.reason answer.from_byte answer.to_byte else (0, 0)

-- counts stand beside a yes alone, but that a room which is too small has a length; an end beside a no; a reason and a place
-- beside a no or a misuse; the place of a name as said; and how many bytes are whole contents beside a yes, a no, and where
-- more are wanted
pub record Zeros (answer : Answer) : Type 0 where
  pub counts : answer.status ≢ 0 → NoCounts answer
  pub bytes : answer.status ≢ 0 → answer.status ≢ 6 → answer.bytes ≡ 0
  pub end : answer.status ≢ 1 → answer.to_byte ≡ 0
  pub place : answer.status ≢ 1 → answer.status ≢ 2 → (answer.reason ≡ 0) × (answer.from_byte ≡ 0)
  pub name : (answer.name_from, answer.name_to) ≡ name_place answer
  pub whole : answer.status ≢ 0 → answer.status ≢ 1 → answer.status ≢ 4 → answer.whole ≡ 0

-- of a text there is no count but its length
abbrev pub TextZeros : Answer → Type 0
TextZeros answer = Zeros answer × NoCounts answer

-- ---- what a check says

-- the statuses beside which an answer says how many bytes are whole contents: a yes, a no, and that more bytes are wanted
abbrev pub KnowsWhole : (status : ℕ) → Type 0
KnowsWhole status = (status ≡ 0) ⊎ ((status ≡ 1) ⊎ (status ≡ 4))

-- it says this number
abbrev pub HasWhole : Answer → ℕ → Type 0
HasWhole answer n = KnowsWhole answer.status → answer.whole ≡ n

-- it says the length of the longest front of the bytes that the filter admits
unfoldable pub SaysWhole : FilterView → Options → List ℕ → Answer → Type 0
SaysWhole filter options bytes answer = KnowsWhole answer.status → IsFront filter options bytes answer.whole

-- a refusal of which this holds stands in the answer
pub record TellsRefusal (Right : Refusal → Type 0) (answer : Answer) : Type 0 where
  pub reason : Reason
  pub number : answer.reason ≡ reason_number reason
  pub right : Right (refusal_in answer reason)

-- the refusal is right of the bytes, and names their first fault
abbrev pub IsRight : FilterView → Options → List ℕ → Refusal → Type 0
IsRight filter options bytes refusal = Refuses filter options bytes refusal × CarriesFirst (gate_of_filter filter options) bytes refusal

-- and no hidden name ends before it; that the bytes end too early is told where all names pass
abbrev pub IsRightAnywhere : Asked → List ℕ → Refusal → Type 0
IsRightAnywhere asked bytes refusal =
    (IsRight asked.filter asked.options bytes refusal × NoneSooner asked bytes refusal.to_byte) × (IsCut refusal → AllPass (passes_in asked) bytes)

-- a hidden name stands in the answer, and no fault ends before it
abbrev pub TellsName : Asked → List ℕ → Answer → Type 0
TellsName asked bytes answer = (answer.reason ≡ 26) × TellsHidden asked bytes answer.from_byte answer.to_byte

-- what is asked says this of the bytes; where it is not asked about names at any place, none is hidden
pub record SaysOf (asked : Asked) (bytes : List ℕ) (answer : Answer) : Type 0 where
  pub accepted : answer.status ≡ 0 → ReportsBy asked bytes (report_in answer)
  pub refused : answer.status ≡ 1 → TellsRefusal (IsRightAnywhere asked bytes) answer ⊎ TellsName asked bytes answer
  pub known : (answer.status ≡ 0) ⊎ ((answer.status ≡ 1) ⊎ (answer.status ≡ 3))

-- what the filter that was read is asked
abbrev pub asked_in : Compiled → Asked
asked_in compiled = asking compiled.applied.filter compiled.applied.options compiled.anywhere

-- what the filter that was read says of the bytes, and how many of them are whole contents
abbrev pub Says : Compiled → List ℕ → Answer → Type 0
Says compiled bytes answer = SaysOf (asked_in compiled) bytes answer × SaysWhole compiled.applied.filter compiled.applied.options bytes answer

-- what a check says under the filter of a text and of a table of modules
pub record SaysUnder (flags : ℕ) (text modules bytes : List ℕ) (answer : Answer) : Type 0 where
  pub compiled : Compiled
  pub is : IsCompiled flags text modules compiled
  pub says : Says compiled bytes answer

-- ---- what a check says of the next bytes

-- a refusal that a byte of the piece decides, and no hidden name ends before it; or a hidden name that ends in the piece
abbrev pub DecidesAlone : Asked → (taken piece : List ℕ) → Refusal → Type 0
DecidesAlone asked taken piece refusal = DecidesIn asked.filter asked.options taken piece refusal × NoneSooner asked (taken ++ piece) refusal.to_byte

pub record TellsNameIn (asked : Asked) (taken piece : List ℕ) (answer : Answer) : Type 0 where
  pub number : answer.reason ≡ 26
  pub hidden : TellsHidden asked (taken ++ piece) answer.from_byte answer.to_byte
  pub later : length taken < answer.to_byte

abbrev pub RefusesNow : Asked → (taken piece : List ℕ) → Answer → Type 0
RefusesNow asked taken piece answer = TellsRefusal (DecidesAlone asked taken piece) answer ⊎ TellsNameIn asked taken piece answer

-- what the next bytes decide, of a check that took bytes which decide nothing
pub record FedSays (asked : Asked) (new : Checking) (taken piece : List ℕ) (answer : Answer) : Type 0 where
  pub more : answer.status ≡ 4 → HasTaken new (taken ++ piece)
  pub refused : answer.status ≡ 1 → RefusesNow asked taken piece answer
  pub known : (answer.status ≡ 4) ⊎ ((answer.status ≡ 1) ⊎ (answer.status ≡ 3))
