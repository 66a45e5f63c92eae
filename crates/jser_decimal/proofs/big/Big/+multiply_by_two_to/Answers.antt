use Rattle.std.proofs.Common.{◌∙◌, ◌*◌, ◌-◌, ◌^◌, ap}
use Rattle.jser_decimal.proofs.BigLemmas.{power_on}
use Rattle.jser_decimal.proofs.big.Big.+multiply_by_two_to.Goals as goal

pub returns-else-power-lt63-clause-product : goal.returns-else-power-lt63-clause-product
returns-else-power-lt63-clause-product t c =
    c.multiply_by_two_to.ensures.product ∙ ap (λ x. x * 2 ^ (c.args.power - 63)) c.multiply-else-power-lt63.ensures.product ∙ power_on 2 63 c.args.power _ c.if-power-lt63.false
