use Rattle.jser_find.proofs.FrontLemmas.{HasFront}
use Rattle.jser_find.proofs.bytes.front_of.Given as goal

abbrev pub invariant-bytes : goal.invariant-bytes
invariant-bytes l = HasFront l.text l.fn.from l.count l.bytes.items l.now l.left

abbrev pub decreases-bytes : goal.decreases-bytes
decreases-bytes l = l.left
