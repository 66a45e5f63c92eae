use Rattle.std.proofs.Common.{eqb-true}
use Rattle.jser_prim.proofs.BlockLemmas.{within_lanes}
use Rattle.jser_prim.proofs.blocks.is_within.Goals as goal

pub returns : goal.returns
returns c = λ none. within_lanes _ _ _ _ c.requires.within c.requires.least c.requires.span (eqb-true _ _ none)
