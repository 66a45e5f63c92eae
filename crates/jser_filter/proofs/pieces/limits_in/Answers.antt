use Rattle.jser_filter.proofs.FilterLemmas.{limits_more}
use Rattle.jser_filter.proofs.pieces.limits_in.Goals as goal

pub loop-piece-preserved : goal.loop-piece-preserved
loop-piece-preserved c =
    limits_more c.args.pieces.now c.loop-piece.piece-index _ c.loop-piece.limits _ c.loop-piece.invariant c.loop-piece-test.true c.piece-item.is c.limits_after-limits.ensures
