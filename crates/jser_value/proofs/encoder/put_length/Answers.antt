use Rattle.jser_value.proofs.EncodeLemmas.{puts_length}
use Rattle.jser_value.proofs.encoder.put_length.Goals as goal

pub returns : goal.returns
returns g c = puts_length _ _ _ _ c.args.len c.put_u32.ensures
