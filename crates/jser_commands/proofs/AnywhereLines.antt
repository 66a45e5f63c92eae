-- What a check with each name that can be read says of a refused stream, of the job that asks for it.
use Rattle.std.proofs.Common.{◌≡◌, List, ℕ, Bool, Option, sym, subst}
use Rattle.std.specs.Prelude.{IfSome}
use Rattle.jser_filter.specs.Filters.{FilterView}
use Rattle.jser_commands.specs.declared.job.Job.{Job}
use Rattle.jser_commands.specs.declared.job.Job.TheVariants as job
use Rattle.jser_commands.specs.Lines.{SaysNoAnywhere, SaysRefused, options_of}

pub anywhere_refused : (asked : Job) (filter : FilterView) (strict : Bool) (told : Option (List ℕ)) (Went : List ℕ → Type 0) → asked ≡ job.CheckAnywhere filter strict
    → IfSome told (λ bytes. SaysNoAnywhere filter (options_of strict) bytes Went) → IfSome told (λ bytes. SaysRefused asked bytes Went)
anywhere_refused asked filter strict told Went e says = subst (λ j. IfSome told (λ bytes. SaysRefused j bytes Went)) (sym e) says
