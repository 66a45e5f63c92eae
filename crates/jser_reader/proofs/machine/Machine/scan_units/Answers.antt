use Rattle.std.proofs.Common.{rules, ap, ◌∙◌, ◌++◌}
use Rattle.jser_reader.proofs.TextScanLemmas.{units_kept}
use Rattle.jser_reader.proofs.machine.Machine.scan_units.Goals as goal

pub returns-clause-scanned : goal.returns-clause-scanned
returns-clause-scanned c = λ _.
    units_kept c.args.part.now c.self.inside.scan c.args.self.now _ (search rules)
    (c.add_units.ensures ∙ ap (λ xs. xs ++ c.args.part.now) (c.reserve.ensures.items ∙ ap (λ r. r.name) c.self.view_is))
    (c.push_plain.ensures.units (search rules)) (c.push_plain.ensures.left (search rules)) (search rules)
