use Rattle.std.proofs.Common.{subst}
use Rattle.jser_records.specs.declared.layout.Shape.TheVariants as shape
use Rattle.jser_records.specs.Arriving.{Arriving, ComesMore}
use Rattle.jser_records.specs.Lines.{TakesLine}
use Rattle.jser_records.specs.Sized.{at_line}
use Rattle.jser_records.proofs.LineLemmas.{line_ended}
use Rattle.jser_records.proofs.RecordLemmas.{records_both, records_quiet}
use Rattle.jser_records.proofs.RoomLemmas.{took_more}
use Rattle.jser_records.proofs.ToldLemmas.{quiet_changed}
use Rattle.jser_records.proofs.lines.next_line.Goals as goal

pub returns-in-Some-clause-records : goal.returns-in-Some-clause-records
returns-in-Some-clause-records g c =
    let was = c.args.clerk.now in
    let now = c.take_whole_line.new.inbox in
    line_ended c.args.lines was (record was { current = c.take_whole_line.new.current }) c.end_line.new.clerk c.args.inbox.now now _ _ _ _ _ _
    (quiet_changed was c.take_whole_line.new.current _ _ c.take_whole_line.ensures.keeps)
    (subst (λ (a : Arriving). TakesLine c.args.lines a now c.take_whole_line.new.current) c.find.ensures.kept c.take_whole_line.ensures.takes) c.end_line.ensures.ends

pub returns-in-Ok-true-clause-records : goal.returns-in-Ok-true-clause-records
returns-in-Ok-true-clause-records g c =
    let from = c.args.inbox.now in
    let now = c.read_more.new.inbox in
    records_quiet (shape.Lines c.args.lines) at_line c.args.clerk.now c.read_more.new.clerk from now _ _ _ _ c.read_more.ensures.quiet
    (took_more from now (subst (λ (a : Arriving). ComesMore a now) c.find.ensures.kept c.in-Ok-true.ensures.comes))

pub returns-in-Ok-false-clause-records : goal.returns-in-Ok-false-clause-records
returns-in-Ok-false-clause-records g c =
    let was = c.args.clerk.now in
    let mid = c.read_more.new.clerk in
    let from = c.args.inbox.now in
    let read = c.read_more.new.inbox in
    records_both (shape.Lines c.args.lines) at_line at_line at_line was mid c.take_last_line.new.clerk from read c.take_last_line.new.inbox _ _ _ _ _ _
    (records_quiet (shape.Lines c.args.lines) at_line was mid from read _ _ _ _ c.read_more.ensures.quiet
    (took_more from read (subst (λ (a : Arriving). ComesMore a read) c.find.ensures.kept c.in-Ok-false.ensures.comes)))
    c.take_last_line.ensures.records
