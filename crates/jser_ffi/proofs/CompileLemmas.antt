-- The filter of a file is that of the text of its lines.
use Rattle.std.proofs.Common.{◌≡◌, ℕ, List, Some, inl, inr, ◌∙◌, subst}
use Rattle.std.specs.Str.{IsUtf8}
use Rattle.jser_settings.specs.declared.FileFault.{FileFault}
use Rattle.jser_settings.specs.FileFaults.{file_fault}
use Rattle.jser_settings.specs.FileTexts.{IsFileText}
use Rattle.jser_settings.specs.FilterFiles.{filter_text}
use Rattle.jser_ffi.specs.declared.answer.Answer.{Answer}
use Rattle.jser_ffi.specs.declared.compiled.Compiled.{Compiled}
use Rattle.jser_ffi.specs.Compiling.{IsCompiled, IsCompiledFile, SaysFileMisuse, SaysMisuse, file_cause_number}

pub file_misuse : (flags : ℕ) (file text bytes modules : List ℕ) (answer : Answer) → IsFileText file text → bytes ≡ text
    → (answer.status ≡ 2 → SaysMisuse flags bytes modules answer) → answer.status ≡ 2 → SaysFileMisuse flags file modules answer
unfolding SaysFileMisuse
file_misuse flags file text bytes modules answer of same says two =
    inr (subst (λ t. SaysMisuse flags t modules answer) (same ∙ of.is) (says two))

pub file_compiled : (flags : ℕ) (file text bytes modules : List ℕ) (compiled : Compiled) → IsFileText file text → bytes ≡ text → IsCompiled flags bytes modules compiled
    → IsCompiledFile flags file modules compiled
file_compiled flags file text bytes modules compiled of same is =
    record { is_text = of.utf8; lines = of.lines; is = subst (λ t. IsCompiled flags t modules compiled) (same ∙ of.is) is }

pub no_file_text : (flags : ℕ) (file modules : List ℕ) (answer : Answer) → (IsUtf8 file → ⊥) → answer.reason ≡ 14 → SaysFileMisuse flags file modules answer
unfolding SaysFileMisuse
no_file_text flags file modules answer none is = inl (inl (record { no_text = none; reason = is }))

pub file_line : (flags : ℕ) (file modules : List ℕ) (fault : FileFault) (answer : Answer) → file_fault file ≡ Some fault → answer.reason ≡ file_cause_number fault.cause
    → answer.from_byte ≡ fault.line → SaysFileMisuse flags file modules answer
unfolding SaysFileMisuse
file_line flags file modules fault answer first why at = inl (inr (record { fault = fault; first = first; reason = why; place = at }))
