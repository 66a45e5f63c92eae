use Rattle.std.proofs.Common.{◌∙◌, ◌*◌, ◌-◌, ◌^◌, ap}
use Rattle.jser_decimal.proofs.BigLemmas.{power_on}
use Rattle.jser_decimal.proofs.big.Big.+multiply_by_ten_to.Goals as goal

pub returns-else-power-lt19-clause-product : goal.returns-else-power-lt19-clause-product
returns-else-power-lt19-clause-product t c =
    c.multiply_by_ten_to.ensures.product ∙ ap (λ x. x * 10 ^ (c.args.power - 19)) c.multiply-else-power-lt19.ensures.product ∙ power_on 10 19 c.args.power _ c.if-power-lt19.false
