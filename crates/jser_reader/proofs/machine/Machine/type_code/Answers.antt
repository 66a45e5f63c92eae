use Rattle.std.proofs.Common.{rules}
use Rattle.jser_reader.proofs.FieldLemmas.{wrong_code}
use Rattle.jser_reader.proofs.machine.Machine.type_code.Goals as goal

pub returns-in-Some : goal.returns-in-Some
returns-in-Some c = wrong_code c.args.code c.in-Some.reason _ c.args.self.now _ c.refuse.ensures.stops c.refuse.ensures.result (search rules)
