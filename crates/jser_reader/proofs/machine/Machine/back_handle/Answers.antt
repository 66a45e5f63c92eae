-- The check finds this with no answer too; with one, it refuses a wrong body sooner.
use Rattle.std.proofs.Common.{rules}
use Rattle.jser_reader.proofs.NumberLemmas.{right_handle}
use Rattle.jser_reader.proofs.machine.Machine.back_handle.Goals as goal

pub returns : goal.returns
returns c = right_handle c.args.n c.is_assigned.result c.ended.result c.args.self.now c.ended.new.self (search rules) (search rules) (search rules) (search rules)
