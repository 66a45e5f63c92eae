use Rattle.std.proofs.Common.{arith}
use Rattle.std.proofs.lemmas.Grind.{common_steps}
use Rattle.jser_printer.specs.Tables.{layers_in}
use Rattle.jser_printer.proofs.PartLemmas.{raw_next, after_raw}
use Rattle.jser_printer.proofs.part.next_part.Goals as goal

pub returns-in_default-clause-next : goal.returns-in_default-clause-next
returns-in_default-clause-next c =
    rw c.in-Raw.is (after_raw (layers_in c.args.table.now.chains c.args.chain) c.args.index c.in-Raw.from _ _ c.value_part.result
    c.layer.ensures c.fields-fields.ensures c.in_default.ensures c.value_part.ensures.next)

pub returns-in-Some-clause-next : goal.returns-in-Some-clause-next
returns-in-Some-clause-next c =
    rw c.in-Raw.is (raw_next (layers_in c.args.table.now.chains c.args.chain) c.args.index c.in-Raw.from c.in-Some.place _ _ _
    c.layer.ensures c.fields-fields.ensures c.field_of.ensures c.in-Some.ensures)

pub field_of-requires : goal.field_of-requires
field_of-requires c = grind (arith, common_steps)

pub returns-then-index-layers-clause-next : goal.returns-then-index-layers-clause-next
returns-then-index-layers-clause-next c = grind (arith, common_steps)
