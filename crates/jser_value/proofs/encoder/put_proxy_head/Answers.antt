use Rattle.jser_value.proofs.EncodeLemmas.{puts_proxy_head}
use Rattle.jser_value.proofs.encoder.put_proxy_head.Goals as goal

pub returns : goal.returns
returns g c = puts_proxy_head _ _ _ _ _ _ _ _ c.args.interfaces.now c.put_u8.ensures c.put_length.ensures c.put_interfaces.ensures
