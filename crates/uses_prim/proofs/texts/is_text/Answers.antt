use Rattle.std.proofs.Common.{[]}
use Rattle.uses_prim.proofs.Scans.{ok_if}
use Rattle.uses_prim.proofs.texts.is_text.Goals as goal

pub returns : goal.returns
returns c = ok_if c.push_all.result c.is_ok.result _ c.is_ok.ensures.value (c.push_all.ensures.accepts _ [] [] c.new-text.ensures.accepted)
