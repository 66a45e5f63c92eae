use Rattle.std.proofs.Common.{rules, ◌≡◌, true, false}
use Rattle.jser_reader.proofs.TextScanLemmas.{name_goes_on, name_fault}
use Rattle.jser_reader.proofs.machine.Machine.scan_byte.Goals as goal

pub returns-in-Ok : goal.returns-in-Ok
returns-in-Ok c =
    name_goes_on c.args.byte c.in-Ok.unit c.self.inside.scan _ c.args.self.now _ _ c.keep_unit.ensures (search rules) c.in-Ok.ensures.unit
    c.in-Ok.ensures.left (search rules) c.requires.checked

pub returns-in-Err : goal.returns-in-Err
returns-in-Err c =
    name_fault c.args.byte c.self.inside.scan _ c.args.self.now _ _ c.refuse.ensures.stops c.refuse.ensures.result (search rules)
    (λ len bytes units h t. let wrong : false ≡ true = (c.in-Err.ensures.accepts len bytes units h).1 t in absurd (cc))
    (search rules)
