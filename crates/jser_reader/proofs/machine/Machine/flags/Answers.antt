use Rattle.std.proofs.Common.{rules}
use Rattle.jser_reader.proofs.FieldLemmas.{flags_fault, flags_go}
use Rattle.jser_reader.proofs.machine.Machine.flags.Goals as goal

pub returns-in-Some : goal.returns-in-Some
returns-in-Some c =
    flags_fault c.args.flags c.in-Some.reason _ c.args.self.now _ _ c.refuse-in-Some.ensures.stops c.refuse-in-Some.ensures.result
    (search rules) (search rules) (search rules) (search rules) (search rules) (search rules)

pub returns-in-None : goal.returns-in-None
returns-in-None c =
    flags_go c.args.flags _ c.args.self.now _ _ c.done.ensures.next c.done.ensures.result
    (search rules) (search rules) (search rules) (search rules) (search rules) (search rules) (search rules) (search rules) (search rules) (search rules)
