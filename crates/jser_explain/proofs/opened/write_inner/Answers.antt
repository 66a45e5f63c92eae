use Rattle.std.proofs.Common.{refl}
use Rattle.jser_explain.proofs.OpenLemmas.{inner_many}
use Rattle.jser_explain.proofs.opened.write_inner.Goals as goal

pub returns-else-others-le-MOST : goal.returns-else-others-le-MOST
returns-else-others-le-MOST g c =
    inner_many _ _ _ _ _ _ c.args.others.now c.split_at.result.1.now _ refl c.if-others-le-MOST.false c.split_at.ensures.back c.write_left_out.ensures
    c.write_opened-else-others-le-MOST.ensures
