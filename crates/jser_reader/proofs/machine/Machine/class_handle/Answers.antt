use Rattle.std.proofs.Common.{ap, sym}
use Rattle.jser_reader.proofs.ClassLemmas.{wrong_class_handle}
use Rattle.jser_reader.proofs.machine.Machine.class_handle.Goals as goal

pub returns-in-Err : goal.returns-in-Err
returns-in-Err c =
    wrong_class_handle c.self.inside.owner c.args.n c.in-Err.reason _ _ _ _ (ap (λ r. r.owner) (sym c.self.view_is)) c.in-Err.ensures.is c.refuse.ensures.stops
    c.refuse.ensures.result
