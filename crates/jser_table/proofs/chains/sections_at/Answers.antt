use Rattle.std.proofs.Common.{◌∙◌, sym, subst, List, Some}
use Rattle.jser_table.specs.declared.layer.Layer.{Layer}
use Rattle.jser_table.specs.Chains.{chain_in}
use Rattle.jser_table.specs.Descriptors.{IsLast, chains_of}
use Rattle.jser_table.proofs.FiledLemmas.{alone}
use Rattle.jser_table.proofs.chains.sections_at.Goals.{then-own-eq1, else-own-eq1}
use Rattle.jser_table.proofs.chains.sections_at.Goals as goal

pub returns : goal.returns
returns c =
    let ds = c.args.descriptors.now in
    let whole : List Layer = chain_in (chains_of ds) c.args.place in
    let told = c.descriptor_at-own.ensures in
    let at_last : IsLast (chains_of ds) whole (Some c.in_ok-last.last) = subst (IsLast (chains_of ds) whole) c.in_ok-last.was told.last in
    elim c.if-own-eq1.branch [
      | then-own-eq1 w ↦ rw w.first-is (alone ds c.args.sections.now whole c.in_ok-last.last c.requires.shelved at_last (sym told.known.filled ∙ w.if-own-eq1.true))
      | else-own-eq1 w ↦ rw w.first-is w.first_of-first.ensures
    ]
