-- What is wrong with the lines of a filter's file.
use Rattle.std.specs.Prelude.{ℕ, ◌+◌, ◌==◌, ◌&&◌, Bool, false, if◌then◌else◌, List, [], ◌∷◌, ◌++◌, codes, Option, Some, None, is_some}
use Rattle.std.specs.Str.{chars}
use Rattle.std.specs.List.{list_any}
use Rattle.std.specs.Fmt.{decimal}
use Rattle.jser_filter.specs.Cuts.{split_at_each}
use Rattle.jser_settings.specs.FilterFiles.{uncommented, without_return}
use Rattle.jser_settings.specs.Unseen.{first_unseen}
use Rattle.jser_settings.specs.declared.file_fault.FileCause.{FileCause}
use Rattle.jser_settings.specs.declared.file_fault.FileCause.TheVariants as cause
use Rattle.jser_settings.specs.declared.file_fault.FileFault.{FileFault}

abbrev pub file_cause_text : FileCause → List ℕ
file_cause_text cause.ByteOrderMark = codes "ByteOrderMark"
file_cause_text cause.NumberSign = codes "NumberSign"
file_cause_text cause.WhiteSpace = codes "WhiteSpace"

abbrev pub file_fault_text : FileFault → List ℕ
file_fault_text fault = codes "filter line " ++ decimal fault.line ++ codes ": " ++ file_cause_text fault.cause

-- the bytes of U+FEFF
abbrev pub begins_with_mark : List ℕ → Bool
begins_with_mark [] = false
begins_with_mark (a ∷ []) = false
begins_with_mark (a ∷ b ∷ []) = false
begins_with_mark (a ∷ b ∷ c ∷ bytes) = a == 0xEF && (b == 0xBB && c == 0xBF)

abbrev pub has_sign : List ℕ → Bool
has_sign line = list_any (λ b. b == 0x23) line

-- some piece of a line begins or ends with a sign that nobody sees
abbrev pub has_blank : List ℕ → Bool
has_blank line = is_some (first_unseen (chars line))

-- of a line without its carriage return; a comment has no pieces
abbrev pub cause_of : List ℕ → Option FileCause
cause_of line =
    if has_sign line then Some cause.NumberSign
    else if has_blank line then Some cause.WhiteSpace
    else None

abbrev pub fault_at : ℕ → Option FileCause → Option FileFault → Option FileFault
fault_at number None later = later
fault_at number (Some cause) later = Some (record { line = number; cause = cause })

-- the lines from this number on
abbrev pub fault_from : ℕ → List (List ℕ) → Option FileFault
fault_from number [] = None
fault_from number (line ∷ []) = fault_at number (cause_of (uncommented line)) None
fault_from number (line ∷ next ∷ lines) = fault_at number (cause_of (uncommented (without_return line))) (fault_from (number + 1) (next ∷ lines))

abbrev pub file_fault : List ℕ → Option FileFault
file_fault bytes =
    if begins_with_mark bytes then Some (record { line = 0; cause = cause.ByteOrderMark }) else fault_from 0 (split_at_each 0x0A bytes)
