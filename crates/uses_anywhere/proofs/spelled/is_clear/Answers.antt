use Rattle.uses_anywhere.proofs.SpelledLemmas.{clear}
use Rattle.uses_anywhere.proofs.spelled.is_clear.Goals as goal

pub returns-in-None : goal.returns-in-None
returns-in-None g c = λ is. clear (g.J.Judge.passes c.args.judge.now) c.args.bytes.now c.names_are_in_rows.ensures c.reads_rows.ensures c.reads_loadable.ensures c.in-None.ensures
