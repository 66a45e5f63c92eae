use Rattle.std.proofs.Common.{rules, refl}
use Rattle.jser_reader.proofs.TextScanLemmas.{plain_scanned, plain_fault}
use Rattle.jser_reader.proofs.machine.Machine.scan_plain.Goals as goal

pub returns-in-Ok : goal.returns-in-Ok
returns-in-Ok c =
    plain_scanned c.args.part.now c.self.inside.scan _ c.args.self.now _ (search rules) c.in-Ok.ensures.units c.in-Ok.ensures.left (search rules)
    c.requires.plain refl

pub returns-in-Err : goal.returns-in-Err
returns-in-Err c =
    plain_fault c.args.part.now c.in-Err.fault.accepted c.self.inside.scan _ c.args.self.now _ _ c.refuse.ensures.stops refl
    (search rules) c.in-Err.ensures.within c.in-Err.ensures.fault (search rules)
