use Rattle.std.proofs.Common.{[]}
use Rattle.uses_prim.proofs.texts.first_fault.Goals as goal

pub returns-in-Err : goal.returns-in-Err
returns-in-Err c = c.in-Err.ensures.fault _ [] [] c.new-scan.ensures.accepted
