use Rattle.jser_printer.proofs.TableLemmas.{is_chain}
use Rattle.jser_printer.proofs.table.NameTable.chain.Goals as goal

pub returns : goal.returns
returns c = is_chain _ _ _ _ c.self.view_is c.self.invariant _ _ c.class_at.ensures
