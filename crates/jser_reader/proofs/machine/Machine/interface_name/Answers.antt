use Rattle.std.proofs.Common.{rules}
use Rattle.jser_reader.proofs.NameLemmas.{interface_refused}
use Rattle.jser_reader.proofs.machine.Machine.interface_name.Goals as goal

pub returns-in-Some : goal.returns-in-Some
returns-in-Some g c = λ d.
    interface_refused _ c.in-Some.reason _ _ _ _ c.refuse.ensures.stops c.refuse.ensures.result (search rules)
