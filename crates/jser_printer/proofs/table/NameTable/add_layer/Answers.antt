use Rattle.std.proofs.Common.{refl}
use Rattle.jser_printer.proofs.TableLemmas.{chains_same, known_same}
use Rattle.jser_printer.proofs.table.NameTable.add_layer.Goals as goal

pub returns-clause-known : goal.returns-clause-known
returns-clause-known c = known_same _ _ _ _ c.self.view_is c.self.invariant _ _ _ refl c.in_ok-push.ensures.items

pub returns-clause-chains : goal.returns-clause-chains
returns-clause-chains c = chains_same _ _ _ _ c.self.view_is c.self.invariant _ _ _ refl c.in_ok-push.ensures.items
