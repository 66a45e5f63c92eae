use Rattle.std.proofs.Common.{◌∙◌}
use Rattle.jser_records.specs.declared.layout.Shape.TheVariants as shape
use Rattle.jser_records.specs.Sized.{at_line}
use Rattle.jser_records.proofs.RecordLemmas.{records_both, records_none, records_then}
use Rattle.jser_records.proofs.lines.read_lines.Goals as goal

pub lines-init : goal.lines-init
lines-init g c = record { records = records_none (shape.Lines c.args.lines) at_line c.args.clerk.now c.args.inbox.now _ _; sought = c.requires.sought }

pub lines-preserved : goal.lines-preserved
lines-preserved g c = record {
  records =
      records_both (shape.Lines c.args.lines) at_line at_line at_line c.args.clerk.now c.lines.clerk c.next_line.new.clerk c.args.inbox.now c.lines.inbox c.next_line.new.inbox _ _ _ _ _ _
      c.lines.invariant.records c.in-Ok-true.ensures.records;
  sought = c.in-Ok-true.ensures.sought ∙ c.lines.invariant.sought;
}

pub returns-in-Ok-false-clause-records : goal.returns-in-Ok-false-clause-records
returns-in-Ok-false-clause-records g c =
    records_both (shape.Lines c.args.lines) at_line at_line at_line c.args.clerk.now c.lines.clerk c.next_line.new.clerk c.args.inbox.now c.lines.inbox c.next_line.new.inbox _ _ _ _ _ _
    c.lines.invariant.records c.in-Ok-false.ensures.records

pub returns-in-Err-clause-records : goal.returns-in-Err-clause-records
returns-in-Err-clause-records g c =
    records_then (shape.Lines c.args.lines) at_line at_line c.args.clerk.now c.lines.clerk c.next_line.new.clerk c.args.inbox.now c.lines.inbox _ _ _ _ _ _
    c.lines.invariant.records c.in-Err.ensures.records
