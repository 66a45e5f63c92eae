use Rattle.std.proofs.Common.{rules, refl}
use Rattle.jser_reader.specs.declared.machine.take.text_bytes.ScanEnd.TheVariants as scan_end
use Rattle.jser_reader.proofs.TextScanLemmas.{plain_scanned}
use Rattle.jser_reader.proofs.machine.Machine.scan_ascii.Goals as goal

pub returns-clause-scanned : goal.returns-clause-scanned
returns-clause-scanned c = λ _.
    plain_scanned c.args.part.now c.self.inside.scan scan_end.All c.args.self.now _ (search rules)
    (λ len before units h. record { more = c.args.part.now; accepted = c.push_plain.ensures.units (search rules) len before units h })
    (c.push_plain.ensures.left (search rules)) (search rules) c.requires.plain refl
