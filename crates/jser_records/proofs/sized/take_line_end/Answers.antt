use Rattle.std.proofs.Common.{[], refl, sym, ap, ◌∙◌}
use Rattle.jser_records.specs.declared.layout.Shape.TheVariants as shape
use Rattle.jser_records.specs.Held.{terms_of}
use Rattle.jser_records.specs.Readings.{unknown}
use Rattle.jser_records.specs.Sized.{at_line_end, line_end_at}
use Rattle.jser_records.proofs.RecordLemmas.{front_quiet}
use Rattle.jser_records.proofs.RoomLemmas.{took_both, took_more, took_none}
use Rattle.jser_records.proofs.SizedLemmas.{end_read, missing_read}
use Rattle.jser_records.proofs.ToldLemmas.{quiet_both, quiet_none}
use Rattle.jser_records.proofs.sized.take_line_end.Goals as goal

pub reads-init : goal.reads-init
reads-init g c = record { quiet = quiet_none c.args.clerk.now _ _; took = took_none c.args.inbox.now; sought = refl }

pub reads-preserved : goal.reads-preserved
reads-preserved g c = record {
  quiet = quiet_both c.args.clerk.now c.reads.clerk c.read_more.new.clerk _ _ _ _ _ _ c.reads.invariant.quiet c.read_more.ensures.quiet;
  took = took_both c.args.inbox.now c.reads.inbox c.read_more.new.inbox [] [] c.reads.invariant.took (took_more c.reads.inbox c.read_more.new.inbox c.in-Ok.ensures.comes);
  sought = c.in-Ok.ensures.comes.sought ∙ c.reads.invariant.sought;
}

pub returns-in-Err-clause-records : goal.returns-in-Err-clause-records
returns-in-Err-clause-records g c =
    front_quiet shape.Sized (at_line_end c.args.passed) c.args.clerk.now c.read_more.new.clerk c.args.inbox.now _ _ _ _
    (quiet_both c.args.clerk.now c.reads.clerk c.read_more.new.clerk _ _ _ _ _ _ c.reads.invariant.quiet c.read_more.ensures.quiet)

pub returns-in-There-clause-records : goal.returns-in-There-clause-records
returns-in-There-clause-records g c =
    end_read c.args.clerk.now c.reads.clerk c.pass_on.new.self c.args.inbox.now c.reads.inbox c.pass.new.self _ _ _ _ _ _ c.args.passed c.is_over.result c.in-There.size c.front.result.now c.reads.invariant.quiet
    c.reads.invariant.took (sym c.in-There.is ∙ c.line_end.ensures ∙ ap (λ xs. line_end_at xs c.is_over.result) c.waiting.ensures) c.is_over.ensures.ends c.pass.ensures
    c.front.ensures c.pass_on.ensures.says (ap (λ r. terms_of r) c.pass_on.ensures.current)

pub returns-in-Missing-clause-records : goal.returns-in-Missing-clause-records
returns-in-Missing-clause-records g c =
    missing_read c.args.clerk.now c.reads.clerk c.tell_loss.new.clerk c.args.inbox.now c.reads.inbox _ _ _ _ _ _ c.args.passed c.is_over.result c.reads.invariant.quiet c.reads.invariant.took
    (sym c.in-Missing.is ∙ c.line_end.ensures ∙ ap (λ xs. line_end_at xs c.is_over.result) c.waiting.ensures) c.is_over.ensures.ends (c.tell_loss.ensures unknown refl)
