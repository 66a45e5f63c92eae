use Rattle.std.proofs.Common.{sym, subst}
use Rattle.jser_records.specs.Ends.{ToldAt, told_at}
use Rattle.jser_records.proofs.EndLemmas.{told_failed, told_line}
use Rattle.jser_records.proofs.run.tell_end.Goals as goal

pub returns-in-ReadFailed-clause-told : goal.returns-in-ReadFailed-clause-told
returns-in-ReadFailed-clause-told g c =
    subst (λ e. ToldAt (told_at e c.args.tally) (g.E.Sink.gone_out c.args.faults.now) (g.E.Sink.gone_out c.print_counts-in-ReadFailed.new.faults)
    (g.E.Sink.has_failed c.args.faults.now) (g.E.Sink.has_failed c.print_counts-in-ReadFailed.new.faults)) (sym c.in-ReadFailed.is)
    (told_failed c.print_counts-in-ReadFailed.result _ _ _ _ _ _ _ _ c.tell_failure-status.ensures.told c.tell_failure-status.ensures.kept
    c.print_counts-in-ReadFailed.ensures.printed c.print_counts-in-ReadFailed.ensures.kept c.print_counts-in-ReadFailed.ensures.failed)

pub returns-in-WriteFailed-clause-told : goal.returns-in-WriteFailed-clause-told
returns-in-WriteFailed-clause-told g c =
    subst (λ e. ToldAt (told_at e c.args.tally) (g.E.Sink.gone_out c.args.faults.now) (g.E.Sink.gone_out c.tell_failure.new.faults) (g.E.Sink.has_failed c.args.faults.now)
    (g.E.Sink.has_failed c.tell_failure.new.faults)) (sym c.in-WriteFailed.is)
    (told_line _ _ _ _ _ c.tell_failure.ensures.told c.tell_failure.ensures.kept)

pub returns-in-NoMemory-clause-told : goal.returns-in-NoMemory-clause-told
returns-in-NoMemory-clause-told g c =
    subst (λ e. ToldAt (told_at e c.args.tally) (g.E.Sink.gone_out c.args.faults.now) (g.E.Sink.gone_out c.tell_failure-in-NoMemory.new.faults)
    (g.E.Sink.has_failed c.args.faults.now) (g.E.Sink.has_failed c.tell_failure-in-NoMemory.new.faults)) (sym c.in-NoMemory.is)
    (told_line _ _ _ _ _ c.tell_failure-in-NoMemory.ensures.told c.tell_failure-in-NoMemory.ensures.kept)
