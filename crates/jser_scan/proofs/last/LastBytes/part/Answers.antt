use Rattle.std.proofs.Common.{rules}
use Rattle.jser_scan.proofs.LastLemmas.{part_stands}
use Rattle.jser_scan.proofs.last.LastBytes.part.Goals as goal

pub returns-clause-stands : goal.returns-clause-stands
returns-clause-stands c = λ bytes are few.
    part_stands c.args.self.now c.self.inside.older.items c.self.inside.newer.items bytes c.push_part-2.new.part.items c.self.inside.end c.in-Some.first c.args.start
    c.args.end (search rules) (search rules) (search rules) (search rules) (search rules) (search rules) are few
