use Rattle.jser_printer.proofs.ValueLemmas.{says_raw_field}
use Rattle.jser_printer.proofs.words.value.write_raw_field.Goals as goal

pub returns : goal.returns
returns g c = says_raw_field _ _ _ _ _ _ c.args.values _ _ c.args.level c.args.field.now.name c.args.bytes.now c.primitive_of.ensures c.write_field_start.ensures c.write_raw_value.ensures
