-- The check finds this with no answer too; with one, it refuses a wrong body sooner.
use Rattle.std.proofs.Common.{arith, rules}
use Rattle.std.proofs.lemmas.Grind.{common_steps}
use Rattle.jser_table.proofs.name.array_element.Goals as goal

pub class_element-requires : goal.class_element-requires
class_element-requires c = search rules

pub is_primitive_code-requires : goal.is_primitive_code-requires
is_primitive_code-requires c = search rules

pub loop-rest-init : goal.loop-rest-init
loop-rest-init c = search rules

pub loop-rest-preserved : goal.loop-rest-preserved
loop-rest-preserved c = grind (arith, common_steps)

pub returns-in-76 : goal.returns-in-76
returns-in-76 c = grind (arith, common_steps)

pub returns-in-len1 : goal.returns-in-len1
returns-in-len1 c = grind (arith, common_steps)

pub returns-in_default-rest : goal.returns-in_default-rest
returns-in_default-rest c = grind (arith, common_steps)
