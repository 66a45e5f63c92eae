use Rattle.jser_find.proofs.FrontLemmas.{HasPlaces}
use Rattle.jser_find.proofs.bytes.place_behind.Given as goal

abbrev pub invariant-bytes : goal.invariant-bytes
invariant-bytes l = HasPlaces l.text l.fn.from l.fn.count l.now l.left

abbrev pub decreases-bytes : goal.decreases-bytes
decreases-bytes l = l.left
