use Rattle.std.proofs.Common.{get_or, rules}
use Rattle.jser_printer.proofs.SaysLemmas.{says_unit}
use Rattle.jser_printer.proofs.words.quote.write_first.Goals as goal

pub returns-clause-said : goal.returns-clause-said
returns-clause-said g c = says_unit _ _ _ _ c.args.units.now c.split_at.result.1.now (get_or c.split_at.result.0.now 0 0) c.put_unit.ensures (search rules) (search rules) (search rules)
