use Rattle.std.specs.Io.KnownBytes.{Appends}
use Rattle.uses_commands.proofs.AnswerLemmas.{said_yes, said_no, said_text, three, prints_nothing}
use Rattle.uses_commands.proofs.answers.answers.Goals as goal

pub returns-clause-yes : goal.returns-clause-yes
returns-clause-yes g c h = said_yes c.args.job.now c.run_input.result _ _ _ c.run_input.ensures.accepted c.run_input.ensures.cut (c.answer_of.ensures.yes h)

pub returns-clause-no : goal.returns-clause-no
returns-clause-no g c h =
    said_no c.args.job.now _ (λ bytes. Appends (g.W.Sink.gone_out c.args.output.now) (g.W.Sink.gone_out c.run_input.new.output)) (c.run_input.ensures.refused (c.answer_of.ensures.no h))

pub returns-clause-printed : goal.returns-clause-printed
returns-clause-printed g c h =
    said_text c.one_reading.ensures c.args.job.now c.run_input.result _ _ _ c.run_input.ensures.accepted c.run_input.ensures.cut (c.answer_of.ensures.yes h)

pub returns-clause-why : goal.returns-clause-why
returns-clause-why g c h = c.run_input.ensures.why (three c.args.job.now _ c.run_input.ensures.status (c.answer_of.ensures.none h))

pub returns-clause-quiet : goal.returns-clause-quiet
returns-clause-quiet g c h = c.run_input.ensures.quiet (c.answer_of.ensures.some h)

pub returns-clause-unbroken : goal.returns-clause-unbroken
returns-clause-unbroken g c h = c.run_input.ensures.unbroken (c.answer_of.ensures.some h)

pub returns-clause-nothing : goal.returns-clause-nothing
returns-clause-nothing g c h =
    prints_nothing c.args.job.now (g.R.Source.to_come c.args.input.now) _ _ _ (c.run_input.ensures.failed (three c.args.job.now _ c.run_input.ensures.status (c.answer_of.ensures.none h)))
