-- An answer about the bytes that a text spells.
use Rattle.std.proofs.Common.{◌≡◌, ℕ, List, Option, Some, None, option_map, subst}
use Rattle.std.specs.Prelude.{IfSome}
use Rattle.jser_grammar.specs.Parts.{IsBytes}
use Rattle.jser_check.proofs.SpelledBytes.{stream_bytes}
use Rattle.jser_inputs.specs.declared.Form.{Form}
use Rattle.jser_inputs.specs.Spelled.{spelling_of}
use Rattle.jser_commands.specs.declared.Job.{Job}
use Rattle.jser_commands.specs.declared.Job.TheVariants as job
use Rattle.uses_commands.specs.Answers.{IsNo, IsYes}

-- what holds of the bytes that are to come holds of what the text spells
of_text : (P : List ℕ → Type 0) (form : Form) (text bytes : Option (List ℕ)) → bytes ≡ option_map (spelling_of form) text → IfSome bytes P
    → IfSome text (λ t. P (spelling_of form t))
of_text P form None bytes is holds = tt
of_text P form (Some t) bytes is holds = subst (λ b. IfSome b P) is holds

pub yes_of_text : (the_job : Job) (form : Form) (text bytes : Option (List ℕ)) → bytes ≡ option_map (spelling_of form) text → IfSome bytes (IsYes the_job)
    → IfSome text (λ t. IsYes the_job (spelling_of form t))
yes_of_text the_job form text bytes is holds = of_text (IsYes the_job) form text bytes is holds

pub no_of_text : (the_job : Job) (form : Form) (text bytes : Option (List ℕ)) → bytes ≡ option_map (spelling_of form) text → IfSome bytes (IsNo the_job)
    → IfSome text (λ t. IsNo the_job (spelling_of form t))
no_of_text the_job form text bytes is holds = of_text (IsNo the_job) form text bytes is holds

-- a stream has bytes alone, so a text that spells one does not go wrong
yes_is_bytes : (the_job : Job) (bytes : List ℕ) → IsYes the_job bytes → IsBytes bytes
yes_is_bytes (job.Check filter strict) bytes yes_is = stream_bytes bytes yes_is.0 yes_is.1.stream
yes_is_bytes (job.CheckAnywhere filter strict) bytes yes_is = stream_bytes bytes yes_is.0 yes_is.1.admitted.stream
yes_is_bytes (job.Show values) bytes yes_is = stream_bytes bytes yes_is.0 yes_is.1
yes_is_bytes (job.ShowLimited values limit) bytes yes_is = stream_bytes bytes yes_is.0 yes_is.1
yes_is_bytes (job.List filter) bytes yes_is = stream_bytes bytes yes_is.0 yes_is.1
yes_is_bytes (job.ListAnywhere filter) bytes yes_is = stream_bytes bytes yes_is.0 yes_is.1

bytes_if : (the_job : Job) (bytes : Option (List ℕ)) → IfSome bytes (IsYes the_job) → IfSome bytes IsBytes
bytes_if the_job None holds = tt
bytes_if the_job (Some b) holds = yes_is_bytes the_job b holds

pub all_bytes : (the_job : Job) (form : Form) (text bytes : Option (List ℕ)) → bytes ≡ option_map (spelling_of form) text → IfSome bytes (IsYes the_job)
    → IfSome text (λ t. IsBytes (spelling_of form t))
all_bytes the_job form text bytes is holds = of_text IsBytes form text bytes is (bytes_if the_job bytes holds)
