use Rattle.std.proofs.Common.{rules}
use Rattle.jser_decimal.proofs.BigLemmas.{limbs_below}
use Rattle.jser_decimal.proofs.big.+are_times_below.Goals as goal

pub returns : goal.returns
returns t c =
    limbs_below c.args.ties c.is_limb_below-ties.result _ _ _ c.args.by c.args.carry _ _ _ c.multiplied-product.result.high _ _ c.lowest-first.ensures.worth c.lowest-second.ensures.worth
    c.multiplied-product.ensures (search rules) (search rules) c.is_limb_below-ties.ensures c.are_times_below.ensures
