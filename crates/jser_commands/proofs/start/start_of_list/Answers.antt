use Rattle.std.proofs.Common.{refl}
use Rattle.jser_commands.proofs.LimitLemmas.{begins_whole, begins_some}
use Rattle.jser_commands.proofs.start.start_of_list.Goals as goal

pub returns-in-Ok : goal.returns-in-Ok
returns-in-Ok c = begins_whole _ _ _ _ c.front_for-front.ensures c.into_bytes.ensures c.in-Ok.ensures.written

pub returns-in-Err : goal.returns-in-Err
returns-in-Err c = begins_some _ _ _ _ refl c.front_for-front.ensures c.into_bytes-in-Err.ensures c.in-Err.ensures.cut.1
