use Rattle.std.proofs.Common.{rules}
use Rattle.jser_anywhere.proofs.RowLemmas.{ahead_none, ahead_found, ahead_more, told_none, told_some}
use Rattle.jser_anywhere.proofs.search.row_hidden.Goals as goal

pub returns-in-None-clause-end : goal.returns-in-None-clause-end
returns-in-None-clause-end g c =
    ahead_none _ _ _ _ _ _ c.names.invariant c.names-test.true (told_none _ _ _ c.text_of.ensures c.in-None.is)

pub returns-then-names_hidden-clause-end : goal.returns-then-names_hidden-clause-end
returns-then-names_hidden-clause-end g c =
    let told = told_some _ _ _ _ c.text_of.ensures c.in-Some.is in
    ahead_found _ _ _ _ _ _ c.text_of.new.units.items _ c.names.invariant c.names-test.true told (search rules)

pub names-preserved : goal.names-preserved
names-preserved g c =
    let told = told_some _ _ _ _ c.text_of.ensures c.in-Some.is in
    ahead_more _ _ _ _ _ _ c.text_of.new.units.items _ _ c.names.invariant c.names-test.true told (search rules) (search rules)
