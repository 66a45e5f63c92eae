use Rattle.jser_explain.proofs.ShortLemmas.{letter_on}
use Rattle.jser_explain.proofs.short.behind_letters.Goals as goal

pub loop-letter-preserved : goal.loop-letter-preserved
loop-letter-preserved c = letter_on _ _ _ _ _ c.loop-letter.invariant c.unit_end.ensures c.behind-rest.ensures
