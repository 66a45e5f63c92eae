use Rattle.std.proofs.Common.{rules, refl, ◌≡◌, ◌∷◌, ◌-◌}
use Rattle.jser_table.specs.Sections.{HoldsFor, layer_of}
use Rattle.jser_reader.specs.Stacks.{tail_of}
use Rattle.jser_reader.specs.declared.frame.Frame.TheVariants as frame
use Rattle.jser_reader.proofs.PartLemmas.{begins_value, begins_notes}
use Rattle.jser_reader.proofs.machine.Machine.begin_section.Goals as goal

pub returns-then-held-gt0-2-clause-part : goal.returns-then-held-gt0-2-clause-part
returns-then-held-gt0-2-clause-part c =
    let held = c.section-held.result in
    let is : HoldsFor (layer_of c.args.self.now.table.chains c.args.section) held = search rules in
    let frames : c.set_top-then-held-gt0-2.new.self ≡ frame.Fields c.args.last c.args.section 0 0 (held.values - 1) ∷ tail_of c.args.self.now.frames = search rules in
    begins_value _ _ c.args.last c.args.section held
    frames c.requires.on is (search rules) (search rules) refl (search rules) (search rules) (search rules)

pub returns-else-held-gt0-2-clause-part : goal.returns-else-held-gt0-2-clause-part
returns-else-held-gt0-2-clause-part c =
    let held = c.section-held.result in
    let is : HoldsFor (layer_of c.args.self.now.table.chains c.args.section) held = search rules in
    begins_notes _ _ c.args.last c.args.section held
    c.requires.on is (search rules) (search rules) refl (search rules) (search rules) (search rules) (search rules)
