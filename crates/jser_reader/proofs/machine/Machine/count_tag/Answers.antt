use Rattle.std.proofs.Common.{rules, refl}
use Rattle.jser_reader.proofs.CountSteps.{counts_value, counts_reset, counts_block}
use Rattle.jser_reader.proofs.machine.Machine.count_tag.Goals as goal

pub returns-in-Some-Value-clause-next : goal.returns-in-Some-Value-clause-next
returns-in-Some-Value-clause-next c = λ _. counts_value c.args.self.now c.args.tag c.max-tally.result c.in-Some-Value.field-0-0 c.args.tally.now (search rules) (search rules)

pub returns-in-Some-Reset-clause-next : goal.returns-in-Some-Reset-clause-next
returns-in-Some-Reset-clause-next c = λ fits. counts_reset c.args.self.now c.args.tag c.from.result _ c.args.tally.now (search rules) (search rules) refl fits

pub returns-in-Some-Block-clause-next : goal.returns-in-Some-Block-clause-next
returns-in-Some-Block-clause-next c = λ _. counts_block c.args.self.now c.args.tag c.in-Some-Block.field-0-0 _ (search rules)
