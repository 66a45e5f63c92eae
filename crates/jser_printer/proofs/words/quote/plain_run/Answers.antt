use Rattle.jser_printer.proofs.SaysLemmas.{run_within, run_front}
use Rattle.jser_printer.proofs.words.quote.plain_run.Goals as goal

pub returns-then-is_full-clause-within : goal.returns-then-is_full-clause-within
returns-then-is_full-clause-within c = run_within _ _ _ c.loop-unit.invariant.many c.loop-unit-test.true

pub returns-then-is_full-clause-plain : goal.returns-then-is_full-clause-plain
returns-then-is_full-clause-plain c = run_front _ _ _ c.loop-unit.invariant.many c.loop-unit.invariant.plain
