use Rattle.jser_reader.proofs.SuperTagLemmas.{wrong_super}
use Rattle.jser_reader.proofs.machine.Machine.super_handle.Goals as goal

pub returns-in-Err : goal.returns-in-Err
returns-in-Err c d = wrong_super c.args.n c.in-Err.reason _ _ _ _ c.in-Err.ensures.is c.refuse.ensures.stops c.refuse.ensures.result
