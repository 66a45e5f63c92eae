use Rattle.jser_table.proofs.ChainLemmas.{above_parent}
use Rattle.jser_table.proofs.chains.above_of.Goals as goal

pub returns-clause-above : goal.returns-clause-above
returns-clause-above c =
    above_parent _ _ _ _ _ c.in-Some.is (c.requires.parent_in _ c.in-Some.is) c.descriptor_at-own.ensures c.jump_from-jump.ensures.inside c.jump_from-jump.ensures.front
