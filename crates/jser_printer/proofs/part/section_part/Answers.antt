use Rattle.jser_printer.specs.Tables.{layers_in}
use Rattle.jser_printer.proofs.PartLemmas.{section_next}
use Rattle.jser_printer.proofs.part.section_part.Goals as goal

pub returns-clause-next : goal.returns-clause-next
returns-clause-next c =
    section_next (layers_in c.args.table.now.chains c.args.chain) c.args.index _ _ c.layer.ensures c.name.ensures
