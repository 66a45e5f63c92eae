use Rattle.std.proofs.Common.{refl}
use Rattle.jser_commands.proofs.LimitLemmas.{front_whole, front_some}
use Rattle.jser_commands.proofs.start.start_of_show.Goals as goal

pub returns-in-Ok : goal.returns-in-Ok
returns-in-Ok c = front_whole c.args.values c.args.graph.now _ _ _ c.front_for-front.ensures c.into_bytes.ensures c.in-Ok.ensures.out

pub returns-in-Err-Write : goal.returns-in-Err-Write
returns-in-Err-Write c =
    front_some c.args.values c.args.graph.now _ _ _ c.in-Err-Write.field-0 refl c.front_for-front.ensures c.into_bytes-in-Err-Write.ensures c.in-Err-Write.ensures.written
