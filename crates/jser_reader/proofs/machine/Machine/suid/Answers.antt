use Rattle.std.proofs.Common.{rules}
use Rattle.jser_reader.proofs.DescriptorLemmas.{suid_goes}
use Rattle.jser_reader.proofs.machine.Machine.suid.Goals as goal

pub returns-in-On : goal.returns-in-On
returns-in-On c = suid_goes _ _ _ c.args.self.now _ _ c.new_descriptor-2.ensures (search rules) (search rules) c.done.ensures.next c.done.ensures.result
