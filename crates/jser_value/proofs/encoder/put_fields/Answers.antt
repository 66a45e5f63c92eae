use Rattle.jser_value.specs.Encoding.{field_spelling}
use Rattle.jser_value.specs.View.{view_field}
use Rattle.jser_value.proofs.EncodeLemmas.{puts_next, puts_all, fields_flat}
use Rattle.jser_value.proofs.encoder.put_fields.Goals as goal

pub loop-field-preserved : goal.loop-field-preserved
loop-field-preserved g c =
    puts_next (λ field. field_spelling (view_field field)) _ _ _ _ _ _ c.args.fields.now c.loop-field.field-index _ c.loop-field-test.true c.field-item.is c.loop-field.invariant c.put_field.ensures

pub returns : goal.returns
returns g c =
    puts_all (λ field. field_spelling (view_field field)) _ _ _ _ c.args.fields.now c.loop-field.field-index _ c.loop-field-test.false (fields_flat c.args.fields.now) c.loop-field.invariant
