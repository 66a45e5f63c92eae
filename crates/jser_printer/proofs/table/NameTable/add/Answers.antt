use Rattle.jser_printer.proofs.TableLemmas.{known_more}
use Rattle.jser_printer.proofs.table.NameTable.add.Goals as goal

pub returns-clause-known : goal.returns-clause-known
returns-clause-known c =
    known_more c.self.inside.handles _ _ _ c.self.view_is c.self.invariant c.assign.new.self _ c.in-Ok.ensures.added c.in-Ok.ensures.numbers c.in-Ok.ensures.lines
