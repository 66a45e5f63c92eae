use Rattle.std.proofs.Common.{arith, ap}
use Rattle.std.proofs.lemmas.Grind.{common_steps}
use Rattle.jser_explain.proofs.ExplainLemmas.{accepts, explained, explained_some, leaves_line}
use Rattle.jser_explain.proofs.LineLemmas.{sound, why_more, why_unsaid}
use Rattle.jser_explain.proofs.answer.explain.Goals as goal

pub returns-then-status-ne-REFUSED-clause-accepted : goal.returns-then-status-ne-REFUSED-clause-accepted
returns-then-status-ne-REFUSED-clause-accepted g c = λ zero_is.
    accepts c.args.rules.now _ c.check_keeping-found.result.0 _ _ c.print_answer-status.ensures.status zero_is c.check_keeping-found.ensures.found
    (c.print_answer-status.ensures.printed (grind (arith, common_steps)))

pub returns-then-status-ne-REFUSED-clause-failed : goal.returns-then-status-ne-REFUSED-clause-failed
returns-then-status-ne-REFUSED-clause-failed g c = λ three_is.
    leaves_line c.args.rules.now _ c.check_keeping-found.result.0 _ _ _ c.check_keeping-found.ensures.found c.check_keeping-found.ensures.first (c.print_answer-status.ensures.failed three_is)

pub returns-clause-refused : goal.returns-clause-refused
returns-clause-refused g c = λ one_is.
    explained c.args.rules.now _ c.check_keeping-found.result.0 c.check_keeping-found.result.2 _ _ _ _ c.print_answer-status.ensures.status (grind (arith, common_steps))
    c.check_keeping-found.ensures.found c.check_keeping-found.ensures.first c.check_keeping-found.ensures.kept (c.print_answer-status.ensures.printed (grind (arith, common_steps)))
    (c.write_more-status.ensures.more one_is)

pub returns-clause-failed : goal.returns-clause-failed
returns-clause-failed g c = λ three_is.
    explained_some c.args.rules.now _ c.check_keeping-found.result.0 c.check_keeping-found.result.2 _ _ _ _ _ c.print_answer-status.ensures.status (grind (arith, common_steps))
    c.check_keeping-found.ensures.found c.check_keeping-found.ensures.first c.check_keeping-found.ensures.kept (c.print_answer-status.ensures.printed (grind (arith, common_steps)))
    (c.write_more-status.ensures.failed three_is)

pub returns-then-status-ne-REFUSED-clause-why : goal.returns-then-status-ne-REFUSED-clause-why
returns-then-status-ne-REFUSED-clause-why g c = λ three_is.
    why_unsaid c.check_keeping-found.result.0 _ _ _ _ _ _ _ _ c.check_keeping-found.ensures.fails (c.print_answer-status.ensures.why three_is)

pub returns-then-status-ne-REFUSED-clause-sound : goal.returns-then-status-ne-REFUSED-clause-sound
returns-then-status-ne-REFUSED-clause-sound g c = λ not. sound c.check_keeping-found.result.0 _ _ _ _ c.check_keeping-found.ensures.fails c.print_answer-status.ensures.status not

pub returns-clause-why : goal.returns-clause-why
returns-clause-why g c = λ three_is.
    why_more c.check_keeping-found.result.0 _ _ _ _ _ _ _ _ _ _ _ c.check_keeping-found.ensures.fails c.print_answer-status.ensures.status (grind (arith, common_steps))
    (c.print_answer-status.ensures.unbroken (grind (arith, common_steps))) (ap g.E.Sink.gone_out (c.print_answer-status.ensures.quiet (grind (arith, common_steps))))
    (c.write_more-status.ensures.why three_is)

pub returns-clause-sound : goal.returns-clause-sound
returns-clause-sound g c = λ not.
    sound c.check_keeping-found.result.0 _ _ _ _ c.check_keeping-found.ensures.fails c.print_answer-status.ensures.status (grind (arith, common_steps))
