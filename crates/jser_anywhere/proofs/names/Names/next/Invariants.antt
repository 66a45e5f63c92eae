use Rattle.std.proofs.Common.{◌≡◌, ◌-◌, length}
use Rattle.jser_anywhere.specs.NamesIn.{untold}
use Rattle.jser_anywhere.proofs.names.Names.next.Given as goal

abbrev pub invariant-places : goal.invariant-places
invariant-places l = (untold l.self ≡ untold l.fn.self) × (l.self.left ≡ 0) × (l.self.bytes ≡ l.fn.self.bytes)

abbrev pub decreases-places : goal.decreases-places
decreases-places l = length l.self.bytes - l.self.next
