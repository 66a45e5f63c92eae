use Rattle.std.proofs.Common.{arith}
use Rattle.jser_value.proofs.PartLemmas.{all_below_each, block_test}
use Rattle.jser_value.proofs.parts.is_block.Goals as goal
use Rattle.jser_value.proofs.parts.is_block.Goals.{then-long, else-long}

pub returns : goal.returns
returns c =
    block_test c.args.long c.args.bytes.now _ (all_below_each 0x100 c.args.bytes.now (λ k h. omega (arith, c.type_inv.bytes k)))
    (elim c.if-long.branch [ then-long w ↦ cc | else-long w ↦ cc ])
