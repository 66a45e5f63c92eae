use Rattle.std.proofs.Common.{ap}
use Rattle.jser_table.specs.Descriptors.{chains_of}
use Rattle.jser_table.specs.declared.descriptor.Filed.{Filed}
use Rattle.jser_table.specs.Chains.{chain_in}
use Rattle.jser_table.proofs.FiledLemmas.{has_layers, first_on_path, first_by_walk}
use Rattle.jser_table.proofs.chains.first_of.Goals as goal

pub section_below-requires-clause-over : goal.section_below-requires-clause-over
section_below-requires-clause-over c = has_layers _ _ _ c.requires.shelved c.requires.last.0

pub returns-then-filed_at-eq1 : goal.returns-then-filed_at-eq1
returns-then-filed_at-eq1 c =
    first_on_path _ _ (chain_in (chains_of c.args.descriptors.now) c.args.place) _ _ _ c.requires.shelved c.requires.last (ap (λ (f : Filed). f.path) c.filed_at.ensures.is) c.filed_at-2.ensures.told
    c.if-filed_at-eq1.true

pub returns-else-filed_at-eq1 : goal.returns-else-filed_at-eq1
returns-else-filed_at-eq1 c = first_by_walk _ _ (chain_in (chains_of c.args.descriptors.now) c.args.place) _ _ c.requires.shelved c.requires.last c.section_below.ensures
