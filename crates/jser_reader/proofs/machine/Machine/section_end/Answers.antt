use Rattle.std.proofs.Common.{rules, refl}
use Rattle.jser_table.specs.Sections.{HoldsFor, layer_of}
use Rattle.jser_reader.proofs.PartLemmas.{ends_in_notes}
use Rattle.jser_reader.proofs.machine.Machine.section_end.Goals as goal

pub returns-then-section-clause-part : goal.returns-then-section-clause-part
returns-then-section-clause-part c =
    let held = c.section.result in
    let is : HoldsFor (layer_of c.args.self.now.table.chains c.args.section) held = search rules in
    ends_in_notes _ _ c.args.last c.args.section held is (search rules) refl (search rules) (search rules) (search rules) (search rules)
