use Rattle.std.proofs.Common.{[], ◌∷◌}
use Rattle.uses_suggest.proofs.LeastLemmas.{both_admitted, one_has, plain_alone}
use Rattle.uses_suggest.proofs.least.filter_of_two.Goals as goal

pub returns-clause-admits : goal.returns-clause-admits
returns-clause-admits c =
    both_admitted c.args.first.now c.args.second.now c.add_both.new.samples c.parsed.result c.admits.ensures c.in_default.ensures
    (c.parsed.ensures (c.args.second.now ∷ c.args.first.now ∷ []) c.in_default.ensures)

pub returns-clause-no_other : goal.returns-clause-no_other
returns-clause-no_other c =
    one_has c.args.first.now c.args.second.now c.add_both.new.samples c.parsed.result c.allows_only.ensures c.in_default.ensures
    (c.parsed.ensures (c.args.second.now ∷ c.args.first.now ∷ []) c.in_default.ensures)

pub returns-clause-plain : goal.returns-clause-plain
returns-clause-plain c =
    plain_alone c.args.first.now c.args.second.now c.add_both.new.samples c.parsed.result c.allows_only.ensures c.in_default.ensures
    (c.parsed.ensures (c.args.second.now ∷ c.args.first.now ∷ []) c.in_default.ensures)
