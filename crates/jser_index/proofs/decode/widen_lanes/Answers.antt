use Rattle.std.proofs.Common.{refl}
use Rattle.jser_index.proofs.DecodeLemmas.{widens}
use Rattle.jser_index.proofs.decode.widen_lanes.Goals as goal

pub returns : goal.returns
returns g c = widens g.row.N c.args.bytes.now c.args.room.now c.args.at _ c.requires.bytes c.requires.room c.requires.few (λ x. refl)
