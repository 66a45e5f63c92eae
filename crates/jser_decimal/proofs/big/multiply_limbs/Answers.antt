use Rattle.std.proofs.Common.{◌∙◌}
use Rattle.std.proofs.lemmas.List.{length-set}
use Rattle.jser_decimal.proofs.BigLemmas.{limb_stored, rest_stored}
use Rattle.jser_decimal.proofs.big.multiply_limbs.Goals as goal

pub limbs-preserved : goal.limbs-preserved
limbs-preserved c = (
  limb_stored _ _ _ _ _ _ _ c.limbs.invariant.0 c.limbs.invariant.1 c.limbs.invariant.2 c.limbs-test.true c.multiplied-product.ensures,
  length-set _ _ _ ∙ c.limbs.invariant.1,
  rest_stored _ _ _ _ c.limbs.invariant.2,
)
