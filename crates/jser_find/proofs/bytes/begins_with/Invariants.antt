use Rattle.std.proofs.Common.{length}
use Rattle.jser_find.proofs.FrontLemmas.{BeginsAs}
use Rattle.jser_find.proofs.bytes.begins_with.Given as goal

abbrev pub invariant-bytes : goal.invariant-bytes
invariant-bytes l = BeginsAs l.text l.fn.from l.fn.needle l.now l.rest

abbrev pub decreases-bytes : goal.decreases-bytes
decreases-bytes l = length l.rest
