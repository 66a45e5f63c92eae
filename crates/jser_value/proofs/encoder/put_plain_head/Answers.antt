use Rattle.jser_value.proofs.EncodeLemmas.{puts_plain_head}
use Rattle.jser_value.proofs.encoder.put_plain_head.Goals as goal

pub returns : goal.returns
returns g c =
    puts_plain_head _ _ _ _ _ _ _ _ _ _ _ _ _ _ c.args.name.now c.args.suid c.args.flags c.args.fields.now c.put_u8.ensures c.put_utf.ensures c.put_u64.ensures c.put_u8-2.ensures c.put_u16.ensures
    c.put_fields.ensures
