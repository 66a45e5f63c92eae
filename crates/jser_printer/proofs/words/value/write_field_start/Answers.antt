use Rattle.jser_printer.proofs.ValueLemmas.{says_field_start}
use Rattle.jser_printer.proofs.words.value.write_field_start.Goals as goal

pub returns : goal.returns
returns g c = says_field_start _ _ _ _ _ _ _ _ c.args.level c.args.name.now _ c.quoted.ensures c.write_deeper_quote.ensures c.write.ensures c.write-2.ensures
