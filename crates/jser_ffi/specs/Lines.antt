-- Short texts in a room: the names of reasons and causes, and the line of an answer.
use Rattle.std.specs.Prelude.{ℕ, ◌≡◌, ◌+◌, ◌*◌, ◌==◌, if◌then◌else◌, List, ◌++◌, codes, Option, Some, None, option_map}
use Rattle.jser_reader.specs.declared.Reason.{Reason}
use Rattle.jser_reader.specs.declared.Reason.TheVariants as reason
use Rattle.jser_reader.specs.ReasonNames.{reason_name}
use Rattle.jser_filter.specs.declared.FilterCause.{FilterCause}
use Rattle.jser_filter.specs.declared.FilterCause.TheVariants as cause
use Rattle.jser_filter.specs.declared.ModulesCause.{ModulesCause}
use Rattle.jser_filter.specs.declared.ModulesCause.TheVariants as line
use Rattle.jser_filter.specs.Faults.{cause_text, modules_cause_text, fault_text, modules_fault_text}
use Rattle.jser_commands.specs.Lines.{yes_line, no_line, hidden_line}
use Rattle.jser_settings.specs.declared.FileCause.{FileCause}
use Rattle.jser_settings.specs.declared.FileCause.TheVariants as slip
use Rattle.jser_settings.specs.FileFaults.{file_cause_text, file_fault_text}
use Rattle.jser_commands.specs.Reasons.{hidden_meaning, reason_meaning}
use Rattle.jser_ffi.specs.declared.answer.Answer.{Answer}
use Rattle.jser_ffi.specs.Rooms.{Puts}
use Rattle.jser_ffi.specs.Told.{bare_answer, refusal_in, report_in}

-- a text is put into the room, if there is one; else the answer is 5 and nothing is written
abbrev pub PutsAny : Option (List ℕ) → (old new : List ℕ) → Answer → Type 0
PutsAny None old new answer = (answer ≡ bare_answer 5) × (new ≡ old)
PutsAny (Some text) old new answer = Puts text old new answer

-- the three numbers of a version, in eight bits each
abbrev pub version_number : (major minor patch : ℕ) → ℕ
version_number major minor patch = (major * 256 + minor) * 256 + patch

-- ---- the reason and the cause of a number

abbrev pub reason_at : ℕ → Option Reason
reason_at n =
    if n == 1 then Some reason.BytesExceeded else
    (if n == 2 then Some reason.BadHeader else
    (if n == 3 then Some reason.BadTag else
    (if n == 4 then Some reason.ExceptionTag else
    (if n == 5 then Some reason.ResetInside else
    (if n == 6 then Some reason.BadText else
    (if n == 7 then Some reason.NegativeLength else
    (if n == 8 then Some reason.BadTypeCode else
    (if n == 9 then Some reason.FieldOrder else
    (if n == 10 then Some reason.BadFlags else
    (if n == 11 then Some reason.NullClass else
    (if n == 12 then Some reason.NoSuchHandle else
    (if n == 13 then Some reason.WrongKind else
    (if n == 14 then Some reason.OpenDescriptor else
    (if n == 15 then Some reason.BadArrayName else
    (if n == 16 then Some reason.WrongClass else
    (if n == 17 then Some reason.ExternalRaw else
    (if n == 18 then Some reason.NotSerializable else
    (if n == 19 then Some reason.ClassRejected else
    (if n == 20 then Some reason.ClassUnmatched else
    (if n == 21 then Some reason.DepthExceeded else
    (if n == 22 then Some reason.RefsExceeded else
    (if n == 23 then Some reason.ArrayExceeded else
    (if n == 24 then Some reason.Truncated else
    (if n == 25 then Some reason.HandleSpace else None))))))))))))))))))))))))

abbrev pub name_at : ℕ → Option (List ℕ)
name_at n = if n == 26 then Some (codes "HiddenName") else option_map reason_name (reason_at n)

-- what the reason of a number means, in a sentence
abbrev pub meaning_at : ℕ → Option (List ℕ)
meaning_at n = if n == 26 then Some hidden_meaning else option_map reason_meaning (reason_at n)

-- the names of the causes of a misuse
abbrev pub cause_at : ℕ → Option (List ℕ)
cause_at n =
    if n == 1 then Some (cause_text cause.UnknownLimit) else
    (if n == 2 then Some (cause_text cause.BadLimit) else
    (if n == 3 then Some (cause_text cause.ModuleMissing) else
    (if n == 4 then Some (cause_text cause.NameMissing) else
    (if n == 5 then Some (cause_text cause.PackageMissing) else
    (if n == 6 then Some (codes "FilterIsNoText") else
    (if n == 7 then Some (modules_cause_text line.BadLine) else
    (if n == 8 then Some (modules_cause_text line.PackageTwice) else
    (if n == 9 then Some (codes "ModulesAreNoText") else
    (if n == 10 then Some (codes "UnknownFlag") else
    (if n == 11 then Some (file_cause_text slip.ByteOrderMark) else
    (if n == 12 then Some (file_cause_text slip.NumberSign) else
    (if n == 13 then Some (file_cause_text slip.WhiteSpace) else
    (if n == 14 then Some (codes "FilterFileIsNoText") else
    (if n == 15 then Some (codes "NoPattern") else None))))))))))))))

-- ---- the line that the program prints of an answer

abbrev pub no_line_of : Answer → Option (List ℕ)
no_line_of answer =
    if answer.reason == 26 then Some (hidden_line answer.from_byte answer.to_byte)
    else option_map (λ why. no_line (refusal_in answer why)) (reason_at answer.reason)

abbrev pub pattern_line : (pattern : ℕ) → FilterCause → List ℕ
pattern_line pattern why = fault_text (record { pattern = pattern; cause = why }) ++ codes "\n"

abbrev pub module_line : (number : ℕ) → ModulesCause → List ℕ
module_line number why = modules_fault_text (record { line = number; cause = why }) ++ codes "\n"

abbrev pub file_line : (number : ℕ) → FileCause → List ℕ
file_line number why = file_fault_text (record { line = number; cause = why }) ++ codes "\n"

abbrev pub misuse_line_of : Answer → Option (List ℕ)
misuse_line_of answer =
    if answer.reason == 1 then Some (pattern_line answer.from_byte cause.UnknownLimit) else
    (if answer.reason == 2 then Some (pattern_line answer.from_byte cause.BadLimit) else
    (if answer.reason == 3 then Some (pattern_line answer.from_byte cause.ModuleMissing) else
    (if answer.reason == 4 then Some (pattern_line answer.from_byte cause.NameMissing) else
    (if answer.reason == 5 then Some (pattern_line answer.from_byte cause.PackageMissing) else
    (if answer.reason == 6 then Some (codes "filter is not text\n") else
    (if answer.reason == 7 then Some (module_line answer.from_byte line.BadLine) else
    (if answer.reason == 8 then Some (module_line answer.from_byte line.PackageTwice) else
    (if answer.reason == 9 then Some (codes "modules are not text\n") else
    (if answer.reason == 10 then Some (codes "unknown flag\n") else
    (if answer.reason == 11 then Some (file_line answer.from_byte slip.ByteOrderMark) else
    (if answer.reason == 12 then Some (file_line answer.from_byte slip.NumberSign) else
    (if answer.reason == 13 then Some (file_line answer.from_byte slip.WhiteSpace) else
    (if answer.reason == 14 then Some (codes "filter file is not text\n") else
    (if answer.reason == 15 then Some (codes "filter has no pattern\n") else None))))))))))))))

abbrev pub line_of : Answer → Option (List ℕ)
line_of answer =
    if answer.status == 0 then Some (yes_line (report_in answer)) else
    (if answer.status == 1 then no_line_of answer else
    (if answer.status == 2 then misuse_line_of answer else
    (if answer.status == 3 then Some (codes "out of memory\n") else None)))
