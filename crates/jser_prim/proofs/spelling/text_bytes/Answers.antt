-- The check finds this with no answer too; with one, it refuses a wrong body sooner.
use Rattle.jser_prim.proofs.TextLemmas.{modified_utf8_more}
use Rattle.std.proofs.Common.{rules}
use Rattle.jser_prim.proofs.spelling.text_bytes.Goals as goal

pub loop-unit-preserved : goal.loop-unit-preserved
loop-unit-preserved c = search (rules, modified_utf8_more)
