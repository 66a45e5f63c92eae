-- What was found of a file is right of its bytes.
use Rattle.std.specs.declared.alloc.AllocError.{AllocError}
use Rattle.std.specs.declared.alloc.Global.{Global}
use Rattle.std.specs.Prelude.{◌≡◌, ℕ, Bool, true, false, List, Option, Some, None, Result, Ok, Err, Vec}
use Rattle.jser_reader.specs.declared.Reason.{Reason}
use Rattle.jser_reader.specs.declared.Reason.TheVariants as reason
use Rattle.jser_reader.specs.declared.Refusal.{Refusal}
use Rattle.jser_inputs.specs.declared.InputFault.{InputFault}
use Rattle.jser_check.specs.declared.Options.{Options}
use Rattle.jser_grammar.specs.Parts.{IsBytes}
use Rattle.jser_check.specs.Admitted.{gate_of_filter}
use Rattle.jser_check.specs.Answers.{CarriesFirst, Reports, Refuses}
use Rattle.jser_check.specs.Pieces.{ReportsAnywhere}
use Rattle.jser_check.specs.Reads.{RefusedIn, HiddenIn}
use Rattle.jser_check.specs.Passing.{asking, passes_name}
use Rattle.jser_scan.specs.declared.check.Rules.{Rules}
use Rattle.jser_scan.specs.declared.found.Found.{Found}
use Rattle.jser_scan.specs.declared.found.Found.TheVariants as found

abbrev pub options_in : Rules → Options
options_in rules = record { strict = rules.strict }

-- a class name that is told is one that the filter does not let pass
abbrev pub IsRefusedName : Rules → Option (Vec ℕ Global) → Type 0
IsRefusedName rules None = Unit {0}
IsRefusedName rules (Some units) = passes_name rules.filter (options_in rules) units.items ≡ false

-- the filter refused a class
abbrev pub is_of_class : Reason → Bool
is_of_class reason.ClassRejected = true
is_of_class reason.ClassUnmatched = true
is_of_class _ = false

-- a refusal, beside which this name is told
abbrev pub found_of : Refusal → Result (Option (Vec ℕ Global)) AllocError → Found
found_of refusal (Ok class) = found.Refused refusal class
found_of refusal (Err why) = found.OutOfMemory

-- beside a refusal stands such a name where the filter refused it, and none where the reason is another
abbrev pub IsNameFor : Rules → Reason → Option (Vec ℕ Global) → Type 0
IsNameFor rules reason.ClassRejected class = IsRefusedName rules class
IsNameFor rules reason.ClassUnmatched class = IsRefusedName rules class
IsNameFor rules _ class = class ≡ None

-- the refusal, with such a name, or that memory ran out
abbrev pub IsRefusal : Rules → Refusal → Found → Type 0
IsRefusal rules refusal (found.Accepted totals) = ⊥
IsRefusal rules refusal (found.Refused same class) = (same ≡ refusal) × IsNameFor rules refusal.reason class
IsRefusal rules refusal (found.Hidden from to class) = ⊥
IsRefusal rules refusal found.NotOpened = ⊥
IsRefusal rules refusal (found.NotRead fault) = ⊥
IsRefusal rules refusal found.OutOfMemory = Unit {0}

-- a name that can be read at these places and is told so, or that memory ran out
abbrev pub IsHidden : Rules → (from to : ℕ) → Found → Type 0
IsHidden rules from to (found.Accepted totals) = ⊥
IsHidden rules from to (found.Refused refusal class) = ⊥
IsHidden rules from to (found.Hidden starts ends class) = ((starts ≡ from) × (ends ≡ to)) × IsRefusedName rules class
IsHidden rules from to found.NotOpened = ⊥
IsHidden rules from to (found.NotRead fault) = ⊥
IsHidden rules from to found.OutOfMemory = Unit {0}

-- A file is told as not read where its input failed, by the fault that the input tells, and nowhere else.
abbrev pub FailsAs : Found → (failed_before failed_after : Bool) → (why : InputFault) → Type 0
FailsAs (found.Accepted totals) failed_before failed_after why = failed_after ≡ failed_before
FailsAs (found.Refused refusal class) failed_before failed_after why = failed_after ≡ failed_before
FailsAs (found.Hidden from to class) failed_before failed_after why = failed_after ≡ failed_before
FailsAs found.NotOpened failed_before failed_after why = ⊥
FailsAs (found.NotRead fault) failed_before failed_after why = (failed_after ≡ true) × (fault ≡ why)
FailsAs found.OutOfMemory failed_before failed_after why = failed_after ≡ failed_before

-- what the check says
abbrev pub IsFoundBy : Rules → List ℕ → Found → Type 0
IsFoundBy rules bytes (found.Accepted totals) = Reports rules.filter (options_in rules) bytes totals
IsFoundBy rules bytes (found.Refused refusal class) = Refuses rules.filter (options_in rules) bytes refusal × IsNameFor rules refusal.reason class
IsFoundBy rules bytes (found.Hidden from to class) = ⊥
IsFoundBy rules bytes found.NotOpened = ⊥
IsFoundBy rules bytes (found.NotRead fault) = Unit {0}
IsFoundBy rules bytes found.OutOfMemory = Unit {0}

-- what the check that asks about names at any place says
abbrev pub IsFoundAnywhere : Rules → List ℕ → Found → Type 0
IsFoundAnywhere rules bytes (found.Accepted totals) = ReportsAnywhere rules.filter (options_in rules) bytes totals
IsFoundAnywhere rules bytes (found.Refused refusal class) = RefusedIn (asking rules.filter (options_in rules) true) bytes refusal × IsNameFor rules refusal.reason class
IsFoundAnywhere rules bytes (found.Hidden from to class) = HiddenIn (asking rules.filter (options_in rules) true) bytes from to × IsRefusedName rules class
IsFoundAnywhere rules bytes found.NotOpened = ⊥
IsFoundAnywhere rules bytes (found.NotRead fault) = Unit {0}
IsFoundAnywhere rules bytes found.OutOfMemory = Unit {0}

abbrev pub IsFoundIf : (anywhere : Bool) → Rules → List ℕ → Found → Type 0
IsFoundIf false rules bytes result = IsFoundBy rules bytes result
IsFoundIf true rules bytes result = IsFoundAnywhere rules bytes result

abbrev pub IsFound : Rules → List ℕ → Found → Type 0
IsFound rules bytes result = IsFoundIf rules.anywhere rules bytes result

-- a refusal names the first fault
abbrev pub NamesFirst : Rules → List ℕ → Found → Type 0
NamesFirst rules bytes (found.Accepted totals) = Unit {0}
NamesFirst rules bytes (found.Refused refusal class) = IsBytes bytes → CarriesFirst (gate_of_filter rules.filter (options_in rules)) bytes refusal
NamesFirst rules bytes (found.Hidden from to class) = Unit {0}
NamesFirst rules bytes found.NotOpened = Unit {0}
NamesFirst rules bytes (found.NotRead fault) = Unit {0}
NamesFirst rules bytes found.OutOfMemory = Unit {0}
