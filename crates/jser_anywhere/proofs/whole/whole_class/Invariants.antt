use Rattle.std.proofs.Common.{length}
use Rattle.jser_anywhere.specs.NamesIn.{untold}
use Rattle.jser_anywhere.proofs.WholeLemmas.{AreOf}
use Rattle.jser_anywhere.proofs.whole.whole_class.Given as goal

pub record invariant-names (l : goal.Live-names) : Type 0 where
  pub names : AreOf l.fn.bytes (untold l.names)

abbrev pub decreases-names : goal.decreases-names
decreases-names l = length (untold l.names)
