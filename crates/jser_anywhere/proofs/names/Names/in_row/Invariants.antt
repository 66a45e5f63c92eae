use Rattle.std.proofs.Common.{◌≡◌}
use Rattle.jser_anywhere.specs.NamesIn.{untold}
use Rattle.jser_anywhere.proofs.names.Names.in_row.Given as goal

abbrev pub invariant-texts : goal.invariant-texts
invariant-texts l = (untold l.self ≡ untold l.fn.self) × (l.self.bytes ≡ l.fn.self.bytes) × (l.self.next ≡ l.fn.self.next)

abbrev pub decreases-texts : goal.decreases-texts
decreases-texts l = l.self.left
