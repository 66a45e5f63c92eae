-- The check finds this with no answer too; with one, it refuses a wrong body sooner.
use Rattle.std.proofs.lemmas.Grind.{common_steps}
use Rattle.std.proofs.Common.{rules, arith}
use Rattle.jser_printer.proofs.words.number.write_without_zeros.Goals as goal

pub returns-in_default : goal.returns-in_default
returns-in_default g c = search rules

pub is_significant-requires : goal.is_significant-requires
is_significant-requires g c = search rules

pub returns-in-48 : goal.returns-in-48
returns-in-48 g c = grind (arith, common_steps)

pub write-requires : goal.write-requires
write-requires g c = search rules

pub without_first_zeros-requires : goal.without_first_zeros-requires
without_first_zeros-requires g c = search rules
