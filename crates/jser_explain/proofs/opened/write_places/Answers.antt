use Rattle.jser_explain.proofs.OpenLemmas.{places_few, places_many}
use Rattle.jser_explain.proofs.opened.write_places.Goals as goal

pub returns-then-opened-le-MOST : goal.returns-then-opened-le-MOST
returns-then-opened-le-MOST g c = places_few _ _ _ _ c.args.opened.now c.if-opened-le-MOST.true c.write_opened.ensures

pub returns-else-opened-le-MOST : goal.returns-else-opened-le-MOST
returns-else-opened-le-MOST g c =
    places_many _ _ _ _ _ _ c.args.opened.now c.split_at.result.0.now c.split_at.result.1.now c.split_at.ensures.front c.split_at.ensures.back
    c.write_opened-else-opened-le-MOST.ensures c.write_inner.ensures
