use Rattle.std.proofs.Common.{arith}
use Rattle.std.proofs.lemmas.Grind.{common_steps}
use Rattle.jser_printer.proofs.SaysLemmas.{says_none, says_on}
use Rattle.jser_scan.proofs.JsonLemmas.{says_none_left}
use Rattle.jser_scan.proofs.json_text.write_whole_units.Goals as goal

pub characters-init : goal.characters-init
characters-init g c = says_none _ _ _

pub characters-preserved : goal.characters-preserved
characters-preserved g c = says_on _ _ _ _ _ _ _ _ _ c.characters.invariant c.write_character-rest.ensures.said

pub returns : goal.returns
returns g c = says_none_left _ _ _ _ _ c.characters.rest.now c.characters.invariant (grind (arith, common_steps))
