use Rattle.jser_explain.specs.Explains.{asked, Explained}
use Rattle.uses_commands.proofs.AnswerLemmas.{yes_accepted, said_no, text_accepted}
use Rattle.uses_commands.proofs.ExplainLemmas.{not_told}
use Rattle.uses_commands.proofs.explains.explained.Goals as goal

pub returns-clause-yes : goal.returns-clause-yes
returns-clause-yes g c h = yes_accepted (asked c.args.rules.now) _ _ _ (c.explain-status.ensures.accepted (c.said_of.ensures.yes h))

pub returns-clause-no : goal.returns-clause-no
returns-clause-no g c h =
    said_no (asked c.args.rules.now) _ (λ bytes. Explained c.args.rules.now bytes (g.W.Sink.gone_out c.args.output.now) (g.W.Sink.gone_out c.explain-status.new.output))
    (c.explain-status.ensures.refused (c.said_of.ensures.no h))

pub returns-clause-printed : goal.returns-clause-printed
returns-clause-printed g c h =
    text_accepted c.one_reading.ensures (asked c.args.rules.now) _ _ _ (c.explain-status.ensures.accepted (c.said_of.ensures.yes h))

pub returns-clause-said : goal.returns-clause-said
returns-clause-said g c h = c.explain-status.ensures.refused (c.said_of.ensures.no h)

pub returns-clause-why : goal.returns-clause-why
returns-clause-why g c h = c.explain-status.ensures.why (not_told _ c.explain-status.ensures.status (c.said_of.ensures.none h))

pub returns-clause-quiet : goal.returns-clause-quiet
returns-clause-quiet g c h = c.explain-status.ensures.quiet (c.said_of.ensures.some h)

pub returns-clause-unbroken : goal.returns-clause-unbroken
returns-clause-unbroken g c h = c.explain-status.ensures.unbroken (c.said_of.ensures.some h)

pub returns-clause-failed : goal.returns-clause-failed
returns-clause-failed g c h = c.explain-status.ensures.failed (not_told _ c.explain-status.ensures.status (c.said_of.ensures.none h))
