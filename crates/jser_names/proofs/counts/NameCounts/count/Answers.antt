use Rattle.std.proofs.Common.{rules}
use Rattle.jser_names.proofs.CountLemmas.{inside_of}
use Rattle.jser_names.proofs.counts.NameCounts.count.Goals as goal

pub raise-requires : goal.raise-requires
raise-requires c = inside_of c.args.name.now c.number_of.new.self c.in-Some.number (search rules)
