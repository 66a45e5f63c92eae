use Rattle.std.proofs.Common.{subst, ℕ, List}
use Rattle.jser_check.specs.Fronts.{IsFront}
use Rattle.jser_check.specs.Pieces.{HasTaken}
use Rattle.jser_check.proofs.WholeLemmas.{whole_told}
use Rattle.jser_check.proofs.check.Check.whole.Goals as goal

pub returns-clause-front : goal.returns-clause-front
returns-clause-front g c =
    subst (λ s. (taken : List ℕ) → HasTaken s taken → IsFront s.reader.gate.filter s.reader.gate.options taken c.whole.result) c.self.view_is
    (λ taken h. whole_told _ taken c.whole.result c.whole.ensures.tells h)
