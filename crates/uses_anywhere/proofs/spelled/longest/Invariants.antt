use Rattle.std.proofs.Common.{◌≡◌, ◌≤◌, length}
use Rattle.jser_anywhere.specs.NamesIn.{untold}
use Rattle.uses_anywhere.proofs.spelled.longest.Given as goal

abbrev pub invariant-names : goal.invariant-names
invariant-names l = (l.names.bytes ≡ l.fn.bytes) × (l.longest ≤ length l.fn.bytes)

abbrev pub decreases-names : goal.decreases-names
decreases-names l = length (untold l.names)
