use Rattle.jser_value.proofs.EncodeLemmas.{puts_utf}
use Rattle.jser_value.proofs.encoder.put_utf.Goals as goal

pub returns : goal.returns
returns g c = puts_utf _ _ _ _ _ _ c.text_len.result c.args.units.now c.text_len.ensures c.put_u16.ensures c.put_units.ensures
