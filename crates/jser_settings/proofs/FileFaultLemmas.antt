-- The lines of a filter's file, one after another.
use Rattle.std.proofs.Common.{◌≡◌, ℕ, ◌+◌, ◌<◌, ◌==◌, Bool, true, false, if◌then◌else◌, List, [], ◌∷◌, Option, Some, None, length, refl, sym, ap, ◌∙◌, arith}
use Rattle.std.specs.List.{position_or_len, before_first, after_first}
use Rattle.std.proofs.lemmas.List.Splits.{slice_split_first, length-slice_split}
use Rattle.jser_filter.specs.Cuts.{split_at_each}
use Rattle.jser_settings.specs.FilterFiles.{uncommented, without_return}
use Rattle.jser_settings.specs.FileFaults.{begins_with_mark, cause_of, fault_at, fault_from, file_fault}
use Rattle.jser_settings.specs.declared.file_fault.FileCause.{FileCause}
use Rattle.jser_settings.specs.declared.file_fault.FileCause.TheVariants as cause
use Rattle.jser_settings.specs.declared.file_fault.FileFault.{FileFault}
use Rattle.jser_settings.proofs.FilterFileLemmas.{one_line}

more_lines : (number : ℕ) (line : List ℕ) (lines : List (List ℕ)) → 0 < length lines
    → fault_from number (line ∷ lines) ≡ fault_at number (cause_of (uncommented (without_return line))) (fault_from (number + 1) lines)
more_lines number line [] some = absurd (omega (arith, some))
more_lines number line (next ∷ lines) some = refl

abbrev pub IsCut : List ℕ → List ℕ → List ℕ → Type 0
IsCut rest line after = (line ≡ before_first (λ b. b == 0x0A) rest) × (after ≡ after_first (λ b. b == 0x0A) rest) × (position_or_len (λ b. b == 0x0A) rest < length rest)

-- a line and those behind it
one_more : (number : ℕ) (rest line after : List ℕ) → IsCut rest line after
    → fault_from number (split_at_each 0x0A rest) ≡ fault_at number (cause_of (uncommented (without_return line))) (fault_from (number + 1) (split_at_each 0x0A after))
one_more number rest line after cut =
    let parts : split_at_each 0x0A rest ≡ line ∷ split_at_each 0x0A after =
    slice_split_first (λ b. b == 0x0A) rest 0 cut.2 ∙ ap (λ l. l ∷ split_at_each 0x0A (after_first (λ b. b == 0x0A) rest)) (sym cut.0) ∙ ap (λ a. line ∷ split_at_each 0x0A a) (sym cut.1) in
    let some : 0 < length (split_at_each 0x0A after) = omega (arith, length-slice_split (λ b. b == 0x0A) after) in
    ap (fault_from number) parts ∙ more_lines number line (split_at_each 0x0A after) some

pub fault_here : (number : ℕ) (rest line after : List ℕ) (cause : FileCause) (all : Option FileFault) → fault_from number (split_at_each 0x0A rest) ≡ all → IsCut rest line after
    → cause_of (uncommented (without_return line)) ≡ Some cause → Some (record { line = number; cause = cause }) ≡ all
fault_here number rest line after cause all is cut found =
    sym (one_more number rest line after cut ∙ ap (λ c. fault_at number c (fault_from (number + 1) (split_at_each 0x0A after))) found) ∙ is

pub fault_later : (number : ℕ) (rest line after : List ℕ) (all : Option FileFault) → fault_from number (split_at_each 0x0A rest) ≡ all → IsCut rest line after
    → cause_of (uncommented (without_return line)) ≡ None → fault_from (number + 1) (split_at_each 0x0A after) ≡ all
fault_later number rest line after all is cut none =
    sym (one_more number rest line after cut ∙ ap (λ c. fault_at number c (fault_from (number + 1) (split_at_each 0x0A after))) none) ∙ is

-- the last line
pub fault_last : (number : ℕ) (rest : List ℕ) (all : Option FileFault) → fault_from number (split_at_each 0x0A rest) ≡ all → position_or_len (λ b. b == 0x0A) rest ≡ length rest
    → fault_at number (cause_of (uncommented rest)) None ≡ all
fault_last number rest all is none = sym (ap (fault_from number) (one_line rest (omega (arith, none)))) ∙ is

-- a file that begins with no mark
pub no_mark : (bytes : List ℕ) → begins_with_mark bytes ≡ false → fault_from 0 (split_at_each 0x0A bytes) ≡ file_fault bytes
no_mark bytes none = sym (ap (λ b. if b then Some (record { line = 0; cause = cause.ByteOrderMark }) else fault_from 0 (split_at_each 0x0A bytes)) none)
