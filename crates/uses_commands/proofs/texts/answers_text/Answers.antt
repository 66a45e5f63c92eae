use Rattle.uses_commands.proofs.TextLemmas.{all_bytes}
use Rattle.uses_commands.proofs.texts.answers_text.Goals as goal

pub returns-clause-of_form : goal.returns-clause-of_form
returns-clause-of_form g c = λ is_yes. all_bytes c.args.job.now c.args.form (g.R.Source.to_come c.args.text) _ c.new-input.ensures.bytes (c.answers.ensures.yes is_yes)
