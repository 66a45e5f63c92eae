use Rattle.std.proofs.Common.{arith}
use Rattle.std.proofs.lemmas.Grind.{common_steps}
use Rattle.jser_printer.proofs.SaysLemmas.{says_none, says_on}
use Rattle.jser_explain.proofs.OpenLemmas.{says_no_more}
use Rattle.jser_explain.proofs.opened.write_opened.Goals as goal

pub opened-init : goal.opened-init
opened-init g c = says_none _ _ _

pub opened-preserved : goal.opened-preserved
opened-preserved g c = says_on _ _ _ _ _ _ _ _ _ c.opened.invariant c.write_first-rest.ensures.said

pub returns : goal.returns
returns g c = says_no_more _ _ _ _ _ c.opened.rest.now c.opened.invariant (grind (arith, common_steps))
