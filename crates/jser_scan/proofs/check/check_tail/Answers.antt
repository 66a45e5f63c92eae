use Rattle.jser_scan.proofs.NameLemmas.{front_kept}
use Rattle.jser_scan.proofs.check.check_tail.Goals as goal

pub returns-then-rules-clause-kept : goal.returns-then-rules-clause-kept
returns-then-rules-clause-kept g c =
    front_kept c.args.tail.now.bytes c.check_names.new.tail.bytes c.args.tail.now.last c.check_names.new.tail.last c.requires c.check_names.ensures.remembers
    c.check_names.ensures.within

pub returns-else-rules-clause-kept : goal.returns-else-rules-clause-kept
returns-else-rules-clause-kept g c =
    front_kept c.args.tail.now.bytes c.check.new.tail.bytes c.args.tail.now.last c.check.new.tail.last c.requires c.check.ensures.remembers c.check.ensures.within
