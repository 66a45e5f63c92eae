use Rattle.std.proofs.Common.{length}
use Rattle.jser_anywhere.specs.NamesIn.{names_in, untold}
use Rattle.uses_anywhere.proofs.PlaceLemmas.{IsOpen}
use Rattle.uses_anywhere.proofs.places.place_of.Given as goal

abbrev pub invariant-names : goal.invariant-names
invariant-names l = IsOpen (names_in 0 l.fn.bytes) (untold l.names) l.fn.name

abbrev pub decreases-names : goal.decreases-names
decreases-names l = length (untold l.names)
