use Rattle.std.proofs.Common.{◌∙◌}
use Rattle.jser_records.specs.declared.layout.Shape.TheVariants as shape
use Rattle.jser_records.specs.Sized.{at_line}
use Rattle.jser_records.proofs.RecordLemmas.{records_both, records_none, records_then}
use Rattle.jser_records.proofs.SizedLemmas.{end_both, next_false, next_true}
use Rattle.jser_records.proofs.sized.read_sized.Goals as goal

pub records-init : goal.records-init
records-init g c = record { records = records_none shape.Sized at_line c.args.clerk.now c.args.inbox.now _ _; sought = c.requires.sought }

pub records-preserved : goal.records-preserved
records-preserved g c = record {
  records =
      records_both shape.Sized at_line at_line at_line c.args.clerk.now c.records.clerk c.next_record.new.clerk c.args.inbox.now c.records.inbox c.next_record.new.inbox _ _ _ _ _ _
      c.records.invariant.records (next_true c.in-Ok-true.field-0 at_line c.records.clerk c.next_record.new.clerk c.records.inbox c.next_record.new.inbox _ _ _ _ c.in-Ok-true.field-0-test c.in-Ok-true.ensures.records);
  sought = c.in-Ok-true.ensures.sought ∙ c.records.invariant.sought;
}

pub returns-in-Ok-false : goal.returns-in-Ok-false
returns-in-Ok-false g c = record {
  records =
      end_both at_line at_line c.args.clerk.now c.records.clerk c.next_record.new.clerk c.args.inbox.now c.records.inbox c.next_record.new.inbox _ _ _ _ _ _ c.records.invariant.records
      (next_false c.in-Ok-false.field-0 at_line c.records.clerk c.next_record.new.clerk c.records.inbox c.next_record.new.inbox _ _ _ _ c.in-Ok-false.field-0-test c.in-Ok-false.ensures.records);
}

pub returns-in-Err : goal.returns-in-Err
returns-in-Err g c = record {
  records =
      records_then shape.Sized at_line at_line c.args.clerk.now c.records.clerk c.next_record.new.clerk c.args.inbox.now c.records.inbox _ _ _ _ _ _ c.records.invariant.records
      c.in-Err.ensures.records;
}
