use Rattle.std.proofs.Common.{rules}
use Rattle.jser_find.proofs.FindsLemmas.{header_here, no_header_here}
use Rattle.jser_find.proofs.finds.Finds.header.Goals as goal

pub returns-in-Some-clause-first : goal.returns-in-Some-clause-first
returns-in-Some-clause-first c =
    header_here c.args.self.now c.self.inside.bytes.now _ c.self.inside.place c.in-Some.at c.first_header.result (search rules) (search rules) (search rules)
    c.split_at.ensures.back (search rules) c.first_header.ensures.first

pub returns-in-None-clause-first : goal.returns-in-None-clause-first
returns-in-None-clause-first c =
    no_header_here c.args.self.now c.self.inside.bytes.now _ c.self.inside.place c.first_header.result (search rules) (search rules) (search rules)
    c.split_at.ensures.back (search rules) c.first_header.ensures.first
