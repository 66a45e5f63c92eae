-- What clap found in the words of a command line.
use Rattle.std.proofs.Common.{◌≡◌, Option, Some, None, option_map, unwrap_or, Result, Ok, Err, List, [], true, false, refl, subst, ap, ◌∙◌}
use Rattle.std.specs.Prelude.{IfOk}
use Rattle.clap.specs.Words.{App, Text, AddsSubcommand, HasMatchesOf, all_of, matched_of, raw_values, first_of, first_value, rows_of, found_of, takes, kind_of, app_of, subcommand_of, subcommand_rows_of, with_subcommand}
use Rattle.clap.specs.declared.ArgMatches.{ArgMatches}
use Rattle.clap.specs.declared.Command.{Command, out-Command}
use Rattle.clap.specs.declared.Error.{Error}
use Rattle.clap.specs.declared.error.ErrorKind.TheVariants.{OutOfMemory}
use Rattle.clap.proofs.WalkLemmas.{first_value-rows, raw_values-rows}
use Rattle.jser_line.specs.declared.line.LineFault.TheVariants as fault
use Rattle.jser_line.specs.App.{the_app, IsMistake}

-- what `get_str` gives, by the rows
pub first_text : (found : ArgMatches) (id : Text) (value : Option Text) → value ≡ first_value (found_of found) id
    → value ≡ first_of id (rows_of (found_of found))
first_text found id value e = e ∙ first_value-rows (found_of found) id

-- what `get_strs` gives, by the rows
pub all_texts : {X E : Type 0} (found : ArgMatches) (id : Text) (values : List Text) (texts_of : X → List Text) (copied : Result X E)
    → Some values ≡ option_map raw_values (matched_of (found_of found) id)
    → IfOk copied (λ x. texts_of x ≡ values) → IfOk copied (λ x. texts_of x ≡ unwrap_or (all_of id (rows_of (found_of found))) [])
all_texts found id values texts_of (Ok x) e same = same ∙ ap (λ o. unwrap_or o []) (e ∙ raw_values-rows (found_of found) id)
all_texts found id values texts_of (Err why) e same = tt

pub no_texts : (found : ArgMatches) (id : Text) → None ≡ option_map raw_values (matched_of (found_of found) id)
    → [] ≡ unwrap_or (all_of id (rows_of (found_of found))) []
no_texts found id e = ap (λ o. unwrap_or o []) (e ∙ raw_values-rows (found_of found) id)

-- a subcommand is one of the command
pub subcommand_added : (old inner new : Command) (outer sub : App) → app_of old ≡ outer → app_of inner ≡ sub → (out-Command inner).has_globals ≡ false
    → AddsSubcommand old inner new → app_of new ≡ with_subcommand outer sub.top
subcommand_added old inner new outer sub is inner_is local adds =
    adds.shape local ∙ ap (λ app. with_subcommand app (app_of inner).top) is ∙ ap (λ app. with_subcommand outer app.top) inner_is

-- what was found is what clap's definition finds
pub matched : (words : List Text) (command : Command) (found : ArgMatches) → app_of command ≡ the_app → HasMatchesOf (app_of command) words found
    → subcommand_rows_of found ≡ subcommand_of the_app words
matched words command found is has = (subst (λ app. HasMatchesOf app words found) is has refl).1

-- a fault that is no want of memory
pub mistaken : (words : List Text) (command : Command) (error : Error) → app_of command ≡ the_app
    → (takes (app_of command) words ≡ true → kind_of error ≡ OutOfMemory) → (kind_of error ≡ OutOfMemory → ⊥) → IsMistake words (fault.Clap error)
mistaken words command error is wants other = (other, λ taken. other (wants (ap (λ app. takes app words) is ∙ taken)))
