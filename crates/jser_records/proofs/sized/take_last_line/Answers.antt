use Rattle.std.proofs.Common.{rules, ◌≡◌, length}
use Rattle.jser_records.specs.Sized.{at_line}
use Rattle.jser_records.proofs.SizedLemmas.{end_none}
use Rattle.jser_records.proofs.sized.take_last_line.Goals as goal

pub returns-then-count-eq0-clause-records : goal.returns-then-count-eq0-clause-records
returns-then-count-eq0-clause-records g c =
    let empty : length c.args.inbox.now.waiting ≡ 0 = search rules in
    end_none at_line c.args.clerk.now c.args.inbox.now _ _ empty c.requires.ends
