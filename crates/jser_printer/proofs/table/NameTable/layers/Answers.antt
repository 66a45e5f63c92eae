use Rattle.jser_printer.proofs.TableLemmas.{layers_kept}
use Rattle.jser_printer.proofs.table.NameTable.layers.Goals as goal

pub returns : goal.returns
returns c = layers_kept _ _ _ _ c.self.view_is c.self.invariant _ _ c.requires c.index.ensures
