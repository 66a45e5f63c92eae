use Rattle.std.proofs.Common.{[]}
use Rattle.uses_prim.proofs.Scans.{ok_if}
use Rattle.uses_prim.proofs.texts.can_begin.Goals as goal

pub returns : goal.returns
returns c = ok_if c.push.result c.is_ok.result _ c.is_ok.ensures.value (c.push.ensures.accepts _ [] [] c.new.ensures.accepted)
