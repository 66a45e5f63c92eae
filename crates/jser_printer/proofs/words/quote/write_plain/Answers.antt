use Rattle.std.proofs.Common.{[], sym, ◌∙◌}
use Rattle.jser_printer.proofs.SaysLemmas.{says_name}
use Rattle.jser_printer.proofs.words.quote.write_plain.Goals as goal

pub returns : goal.returns
returns g c = says_name _ _ _ _ _ _ _ _ c.args.plain.bytes.now _ [] (c.bytes.ensures.is ∙ sym c.args.plain.same) c.write.ensures c.write-2.ensures c.write-3.ensures
