use Rattle.std.proofs.Common.{sym, ap, subst, ◌∙◌}
use Rattle.jser_records.proofs.EndLemmas.{ended, written_by}
use Rattle.jser_records.proofs.run.run_records.Goals as goal

pub returns-clause-written : goal.returns-clause-written
returns-clause-written g c =
    written_by c.args.asked c.args.rules.now _ _ _ _ _ _ c.read_all-read.result.0 c.read_all-read.result.1 _ c.end_by-end.result c.tell_end-2.result c.read_all-read.ensures
    (ended c.read_all-read.result.0 c.end_by-end.result _ _ _ _ c.end_by-end.ensures c.failed-2.ensures c.failed-3.ensures) c.tell_end-2.ensures.status c.tell_end-2.ensures.told
