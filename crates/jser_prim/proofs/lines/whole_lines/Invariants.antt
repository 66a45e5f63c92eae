use Rattle.jser_prim.proofs.LineLemmas.{Back}
use Rattle.jser_prim.proofs.lines.whole_lines.Given as goal

abbrev pub invariant-back : goal.invariant-back
invariant-back l = Back l.bytes l.most l.end

abbrev pub decreases-back : goal.decreases-back
decreases-back l = l.end
