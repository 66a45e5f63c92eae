use Rattle.std.proofs.Common.{refl}
use Rattle.uses_reader.proofs.StandingLemmas.{tells_last}
use Rattle.uses_reader.proofs.standing.last_of.Goals as goal

pub returns : goal.returns
returns g c = tells_last _ c.args.piece.now _ _ _ _ _ c.feed.new.visitor refl c.in_ok-feed.ensures.visits
