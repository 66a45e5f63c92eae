use Rattle.jser_value.proofs.EncodeLemmas.{puts_long_string, puts_short_string}
use Rattle.jser_value.proofs.encoder.put_text.Goals as goal

pub returns-then-text : goal.returns-then-text
returns-then-text g c =
    puts_long_string _ _ _ _ _ _ c.args.text.now.long c.args.text.now.units.items c.if-text.true c.put_u8.ensures
    (rw (← c.deref.ensures.value) c.put_long_utf.ensures)

pub returns-else-text : goal.returns-else-text
returns-else-text g c =
    puts_short_string _ _ _ _ _ _ c.args.text.now.long c.args.text.now.units.items c.if-text.false c.put_u8-else-text.ensures
    (rw (← c.deref-else-text.ensures.value) c.put_utf.ensures)
