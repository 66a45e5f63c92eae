-- Why there is no stream of an input.
use Rattle.std.specs.Prelude.{ℕ, ◌≡◌, Bool, true, List, Option}
use Rattle.jser_reader.specs.declared.Refusal.{Refusal}
use Rattle.jser_inputs.specs.declared.InputFault.{InputFault}
use Rattle.jser_settings.specs.Settings.{TellsInputFault, TellsNoMemory}
use Rattle.jser_names.specs.declared.NamesFault.{NamesFault}
use Rattle.jser_names.specs.declared.NamesFault.TheVariants as fault
use Rattle.jser_commands.specs.Lines.{no_line, SaysUnwritten}
use Rattle.jser_commands.specs.declared.input.Unread.{Unread}
use Rattle.jser_commands.specs.declared.input.Unread.TheVariants as unread

-- what holds of the refusal, where that is why there is no stream
abbrev pub IfUnreadRefused : (Refusal → Type 0) → Unread → Type 0
IfUnreadRefused P (unread.Refused refusal) = P refusal
IfUnreadRefused P unread.Failed = Unit {0}
IfUnreadRefused P unread.OutOfMemory = Unit {0}

-- the line of the refusal, of which `Went` says what went out
abbrev pub PrintsUnread : (Went : List ℕ → Type 0) → Unread → Type 0
PrintsUnread Went (unread.Refused refusal) = Went (no_line refusal)
PrintsUnread Went unread.Failed = ⊥
PrintsUnread Went unread.OutOfMemory = ⊥

-- that a read failed, or that memory ran out, is told; else that the line of the refusal was not written
abbrev pub WhyUnread : InputFault → Unread → (write_before write_after : Bool) → (failed : Bool) → (old new : Option (List ℕ)) → Type 0
WhyUnread why (unread.Refused refusal) write_before write_after failed old new = SaysUnwritten write_before write_after failed old new
WhyUnread why unread.Failed write_before write_after failed old new = (write_after ≡ write_before) × TellsInputFault why failed old new
WhyUnread why unread.OutOfMemory write_before write_after failed old new = (write_after ≡ write_before) × TellsNoMemory failed old new

-- a read failed where that is why there is no stream, and nowhere else
abbrev pub IsReadFault : Unread → (failed_before failed_after : Bool) → Type 0
IsReadFault (unread.Refused refusal) failed_before failed_after = failed_after ≡ failed_before
IsReadFault unread.Failed failed_before failed_after = failed_after ≡ true
IsReadFault unread.OutOfMemory failed_before failed_after = failed_after ≡ failed_before

-- a fault of reading names is this one of reading the stream
abbrev pub IsUnread : NamesFault → Unread → Type 0
IsUnread (fault.Refused refusal) told = told ≡ unread.Refused refusal
IsUnread fault.ReadFault told = told ≡ unread.Failed
IsUnread fault.OutOfMemory told = told ≡ unread.OutOfMemory
