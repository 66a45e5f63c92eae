use Rattle.std.proofs.Common.{◌∙◌, arith, rules}
use Rattle.jser_value.proofs.PartLemmas.{all_below_each, text_test}
use Rattle.jser_value.proofs.parts.is_text.Goals as goal
use Rattle.jser_value.proofs.parts.is_text.Goals.{then-long, else-long}

pub returns : goal.returns
returns c =
    c.is_some.ensures
    ∙ text_test c.args.long c.args.units.now c.if-long.most c.after_units.result (all_below_each 0x10000 c.args.units.now (λ k h. omega (arith, c.type_inv.units k)))
    (elim c.if-long.branch [ then-long w ↦ search rules | else-long w ↦ search rules ]) c.after_units.ensures
