use Rattle.jser_decimal.proofs.BigLemmas.{multiplied_whole}
use Rattle.jser_decimal.proofs.big.Big.multiply.Goals as goal

pub returns-then-carry-gt0-clause-product : goal.returns-then-carry-gt0-clause-product
returns-then-carry-gt0-clause-product c =
    multiplied_whole _ _ _ _ _ c.multiply_each-carry.ensures.product c.multiply_each-carry.ensures.same c.push.ensures.items
