use Rattle.jser_value.specs.View.{view_field}
use Rattle.jser_value.proofs.EncodeLemmas.{puts_field}
use Rattle.jser_value.proofs.encoder.put_field.Goals as goal

pub returns : goal.returns
returns g c =
    puts_field _ _ _ _ _ _ _ _ (view_field c.args.field.now) c.put_u8.ensures (rw (← c.deref.ensures.value) c.put_utf.ensures) c.put_type.ensures
