use Rattle.std.proofs.Common.{refl, subst}
use Rattle.jser_records.specs.declared.layout.Shape.TheVariants as shape
use Rattle.jser_records.specs.Arriving.{Arriving, ComesMore, HasNone}
use Rattle.jser_records.specs.Readings.{unknown}
use Rattle.jser_records.specs.Sized.{at_line}
use Rattle.jser_records.proofs.RecordLemmas.{records_quiet}
use Rattle.jser_records.proofs.RoomLemmas.{took_more}
use Rattle.jser_records.proofs.SizedLemmas.{next_both, too_long_end}
use Rattle.jser_records.proofs.sized.next_record.Goals as goal

pub returns-in-None-clause-records : goal.returns-in-None-clause-records
returns-in-None-clause-records g c =
    too_long_end c.args.clerk.now c.tell_loss.new.clerk c.args.inbox.now c.find.new.self _ _ _ _ c.find.ensures.kept
    (subst (λ e. HasNone e c.args.inbox.now.waiting) c.requires.sought (c.find.ensures.none c.in-None.is)) (c.is_full.ensures c.if-is_full.true) (c.tell_loss.ensures unknown refl)

pub returns-in-Ok-false-clause-records : goal.returns-in-Ok-false-clause-records
returns-in-Ok-false-clause-records g c =
    let was = c.args.clerk.now in
    let mid = c.read_more.new.clerk in
    let from = c.args.inbox.now in
    let read = c.read_more.new.inbox in
    next_both c.take_last_line.result at_line at_line was mid c.take_last_line.new.clerk from read c.take_last_line.new.inbox _ _ _ _ _ _
    (records_quiet shape.Sized at_line was mid from read _ _ _ _ c.read_more.ensures.quiet
    (took_more from read (subst (λ (a : Arriving). ComesMore a read) c.find.ensures.kept c.in-Ok-false.ensures.comes)))
    c.take_last_line.ensures.records
