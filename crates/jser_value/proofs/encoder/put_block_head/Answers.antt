use Rattle.jser_value.proofs.EncodeLemmas.{puts_long_head, puts_short_head}
use Rattle.jser_value.proofs.encoder.put_block_head.Goals as goal

pub returns-then-long : goal.returns-then-long
returns-then-long g c = puts_long_head _ _ _ _ _ _ c.args.long c.args.size c.if-long.true c.put_u8.ensures c.put_length.ensures

pub returns-else-long : goal.returns-else-long
returns-else-long g c = puts_short_head _ _ _ _ _ _ c.args.long c.args.size c.if-long.false c.put_u8-else-long.ensures c.put_u8-else-long-2.ensures
