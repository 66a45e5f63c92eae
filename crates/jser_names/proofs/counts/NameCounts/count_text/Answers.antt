use Rattle.std.proofs.Common.{rules}
use Rattle.jser_names.proofs.CountLemmas.{inside_of, text_added}
use Rattle.jser_names.proofs.counts.NameCounts.count_text.Goals as goal

pub raise-requires-in-Some-number_of : goal.raise-requires-in-Some-number_of
raise-requires-in-Some-number_of c = inside_of c.deref.result.now c.number_of.new.self c.in-Some-number_of.number (search rules)

pub returns-in-None : goal.returns-in-None
returns-in-None c = text_added c.deref-in-None.result.now c.args.text.now c.args.self.now c.add.new.self _ c.add.result (search rules) (search rules) (search rules)
