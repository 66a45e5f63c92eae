use Rattle.std.proofs.Common.{refl}
use Rattle.uses_reader.proofs.ShowingLemmas.{shows_at_most}
use Rattle.uses_reader.proofs.showing.show_at_most.Goals as goal

pub returns : goal.returns
returns g c = shows_at_most _ c.args.piece.now c.args.most c.feed.result _ _ _ _ _ c.feed.new.visitor refl c.feed.ensures.visits
