-- What an explanation is of, and what goes out of it.
use Rattle.std.specs.Prelude.{◌≡◌, ◌<◌, ◌^◌, ◌⊎◌, ℕ, Bool, true, false, List, ◌++◌, [], length, Option, IfSome}
use Rattle.std.specs.Io.KnownBytes.{Appends, Keeps}
use Rattle.jser_filter.specs.Filters.{FilterView}
use Rattle.jser_settings.specs.Settings.{TellsInputFault}
use Rattle.jser_commands.specs.declared.job.Job.{Job}
use Rattle.jser_commands.specs.declared.job.Job.TheVariants as job
use Rattle.jser_commands.specs.Lines.{yes_line, no_line, hidden_line, KeptOrCut, SaysFailed, SaysRefused, SaysUnwritten}
use Rattle.jser_scan.specs.declared.check.Rules.{Rules}
use Rattle.jser_scan.specs.declared.found.Found.{Found}
use Rattle.jser_scan.specs.declared.found.Found.TheVariants as found
use Rattle.jser_scan.specs.Founds.{IsFound}
use Rattle.jser_scan.specs.LastSeen.{LastSeen, AreLast}
use Rattle.jser_explain.specs.Whys.{SaysSomeWhy, SaysWhy}

abbrev pub check_of : (anywhere strict : Bool) → FilterView → Job
check_of false strict filter = job.Check filter strict
check_of true strict filter = job.CheckAnywhere filter strict

-- the check under these rules
abbrev pub asked : Rules → Job
asked rules = check_of rules.anywhere rules.strict rules.filter

-- ---- the line

-- the line of check for what was found, where that is an answer
abbrev pub line_of : Found → List ℕ
line_of (found.Accepted totals) = yes_line totals
line_of (found.Refused refusal class) = no_line refusal
line_of (found.Hidden from to class) = hidden_line from to
line_of found.NotOpened = []
line_of (found.NotRead fault) = []
line_of found.OutOfMemory = []

-- the status of what was found, or that of a failure
abbrev pub HasStatus : Found → (status : ℕ) → Type 0
HasStatus (found.Accepted totals) status = (status ≡ 0) ⊎ (status ≡ 3)
HasStatus (found.Refused refusal class) status = (status ≡ 1) ⊎ (status ≡ 3)
HasStatus (found.Hidden from to class) status = (status ≡ 1) ⊎ (status ≡ 3)
HasStatus found.NotOpened status = status ≡ 3
HasStatus (found.NotRead fault) status = status ≡ 3
HasStatus found.OutOfMemory status = status ≡ 3

-- what went out where the status is that of a failure: nothing, or the first bytes of the line
abbrev pub LeavesLine : Found → (failed : Bool) → (old new : Option (List ℕ)) → Type 0
LeavesLine (found.Accepted totals) failed old new = KeptOrCut failed old new (yes_line totals)
LeavesLine (found.Refused refusal class) failed old new = KeptOrCut failed old new (no_line refusal)
LeavesLine (found.Hidden from to class) failed old new = KeptOrCut failed old new (hidden_line from to)
LeavesLine found.NotOpened failed old new = Keeps old new
LeavesLine (found.NotRead fault) failed old new = Keeps old new
LeavesLine found.OutOfMemory failed old new = Keeps old new

-- ---- why

-- this is said of bytes that are kept: of all that there were, if so many can be counted
pub record SaidOfKept (last : LastSeen) (Said : List ℕ → Type 0) : Type 0 where
  pub kept : List ℕ
  pub all : (bytes : List ℕ) → AreLast last bytes → length bytes < 2 ^ 64 → kept ≡ bytes
  pub said : Said kept

-- This is said of the first bytes of an input, those that were read; and what is found of the input is what the check finds.
pub record SaidOfFront (rules : Rules) (bytes : List ℕ) (result : Found) (Said : List ℕ → Type 0) : Type 0 where
  pub found : IsFound rules bytes result
  pub front : List ℕ
  pub rest : List ℕ
  pub split : bytes ≡ front ++ rest
  pub said : Said front

-- why the bytes are refused went out
abbrev pub ExplainsAll : Rules → List ℕ → Found → (old new : Option (List ℕ)) → Type 0
ExplainsAll rules bytes result old new = SaidOfFront rules bytes result (λ front. SaysWhy front result old new)

-- nothing of it, or the output failed and the first bytes went out
abbrev pub ExplainsSome : Rules → List ℕ → Found → (failed : Bool) → (old new : Option (List ℕ)) → Type 0
ExplainsSome rules bytes result failed old new =
    (new ≡ old) ⊎ ((failed ≡ true) × SaidOfFront rules bytes result (λ front. SaysSomeWhy front result old new))

-- a line went out, which is that of what was found, and then why, or some of it
pub record Explained (rules : Rules) (bytes : List ℕ) (old new : Option (List ℕ)) (line : List ℕ) : Type 0 where
  pub result : Found
  pub line_is : line ≡ line_of result
  pub between : Option (List ℕ)
  pub printed : Appends old between line
  pub why : ExplainsAll rules bytes result between new

pub record ExplainedSome (rules : Rules) (bytes : List ℕ) (failed : Bool) (old new : Option (List ℕ)) (line : List ℕ) : Type 0 where
  pub result : Found
  pub line_is : line ≡ line_of result
  pub between : Option (List ℕ)
  pub printed : Appends old between line
  pub why : ExplainsSome rules bytes result failed between new

-- What status 3 says of the output: what it says of the check; or the line of the refusal went out, and some of why.
abbrev pub LeavesSome : Rules → (told : Option (List ℕ)) → (failed : Bool) → (old new : Option (List ℕ)) → Type 0
LeavesSome rules told failed old new =
    SaysFailed (asked rules) told failed old new
    ⊎ IfSome told (λ bytes. SaysRefused (asked rules) bytes (ExplainedSome rules bytes failed old new))

-- Why what was found was not said, as it was told: by its fault, of an input that was not read; else the output failed, or memory ran out.
abbrev pub WhyUnsaid : Found → (write_before write_after failed : Bool) → (old new : Option (List ℕ)) → Type 0
WhyUnsaid (found.Accepted totals) before after failed old new = SaysUnwritten before after failed old new
WhyUnsaid (found.Refused refusal class) before after failed old new = SaysUnwritten before after failed old new
WhyUnsaid (found.Hidden from to class) before after failed old new = SaysUnwritten before after failed old new
WhyUnsaid found.NotOpened before after failed old new = SaysUnwritten before after failed old new
WhyUnsaid (found.NotRead fault) before after failed old new = (after ≡ before) × TellsInputFault fault failed old new
WhyUnsaid found.OutOfMemory before after failed old new = SaysUnwritten before after failed old new
