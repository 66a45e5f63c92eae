use Rattle.std.proofs.Common.{refl}
use Rattle.jser_records.specs.declared.layout.Shape.TheVariants as shape
use Rattle.jser_records.specs.Sized.{at_line}
use Rattle.jser_records.proofs.RecordLemmas.{front_quiet}
use Rattle.jser_records.proofs.SizedLemmas.{value_read}
use Rattle.jser_records.proofs.ToldLemmas.{quiet_from}
use Rattle.jser_records.proofs.sized.take_value.Goals as goal

pub returns-in-Ok-clause-records : goal.returns-in-Ok-clause-records
returns-in-Ok-clause-records g c =
    let was = c.args.clerk.now in
    let begun = record was { current = c.begin_record.new.current } in
    value_read was begun c.take_bytes.new.clerk c.close.new.self c.args.inbox.now c.begin_record.new.inbox c.take_bytes.new.inbox _ _ _ _ _ _ c.close.result c.args.key c.args.count c.args.size
    c.requires.head c.begin_record.ensures.passed (c.in-Ok.ensures.takes c.begin_record.ensures.begun.plain)
    (quiet_from was begun c.take_bytes.new.clerk _ _ _ _ refl c.begin_record.ensures.keeps c.take_bytes.ensures.quiet) c.take_bytes.ensures.key
    c.begin_record.ensures.key c.begin_record.ensures.held c.close.ensures.closes

pub returns-in-Err-clause-records : goal.returns-in-Err-clause-records
returns-in-Err-clause-records g c =
    let was = c.args.clerk.now in
    let begun = record was { current = c.begin_record.new.current } in
    front_quiet shape.Sized at_line was c.take_bytes.new.clerk c.args.inbox.now _ _ _ _
    (quiet_from was begun c.take_bytes.new.clerk _ _ _ _ refl c.begin_record.ensures.keeps c.take_bytes.ensures.quiet)
