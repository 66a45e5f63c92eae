use Rattle.std.proofs.Common.{refl}
use Rattle.jser_printer.proofs.TableLemmas.{own_kept}
use Rattle.jser_printer.proofs.table.NameTable.layer_of_class.Goals as goal

pub returns : goal.returns
returns c = own_kept _ _ _ _ c.self.view_is c.self.invariant _ _ _ _ refl c.requires c.index.ensures c.index-2.ensures
