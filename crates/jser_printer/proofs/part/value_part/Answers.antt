use Rattle.jser_printer.specs.Tables.{layers_in}
use Rattle.jser_printer.proofs.PartLemmas.{value_next, notes_next, after_values}
use Rattle.jser_printer.proofs.part.value_part.Goals as goal

pub returns-in-Some-clause-next : goal.returns-in-Some-clause-next
returns-in-Some-clause-next c =
    value_next (layers_in c.args.table.now.chains c.args.chain) c.args.index c.args.from c.in-Some.place _ _ _
    c.layer-layer.ensures c.fields-fields.ensures c.name_of.ensures c.in-Some.ensures

pub returns-then-has_notes-clause-next : goal.returns-then-has_notes-clause-next
returns-then-has_notes-clause-next c =
    notes_next (layers_in c.args.table.now.chains c.args.chain) c.args.index c.args.from _ _ _ c.layer-layer.ensures
    c.fields-fields.ensures c.in_default.ensures c.has_notes.ensures c.if-has_notes.true

pub returns-clause-next : goal.returns-clause-next
returns-clause-next c =
    after_values (layers_in c.args.table.now.chains c.args.chain) c.args.index c.args.from _ _ _ c.section_part.result
    c.layer-layer.ensures c.fields-fields.ensures c.in_default.ensures c.has_notes.ensures c.if-has_notes.false
    c.section_part.ensures.next
