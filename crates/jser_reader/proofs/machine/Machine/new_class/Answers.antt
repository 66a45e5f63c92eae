use Rattle.std.proofs.Common.{rules}
use Rattle.jser_reader.proofs.ValueLemmas.{new_class}
use Rattle.jser_reader.proofs.machine.Machine.new_class.Goals as goal

pub returns : goal.returns
returns c = new_class c.args.role _ _ _ _ c.next_text.ensures.next (search rules) (search rules) (search rules) (search rules) (search rules) (search rules) (search rules)
