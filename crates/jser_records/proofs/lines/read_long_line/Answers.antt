use Rattle.std.proofs.Common.{refl, ◌∙◌}
use Rattle.jser_records.specs.declared.layout.Shape.TheVariants as shape
use Rattle.jser_records.specs.Sized.{at_line}
use Rattle.jser_records.proofs.LineLemmas.{first_later, first_more, line_ended, line_taken}
use Rattle.jser_records.proofs.RecordLemmas.{front_quiet}
use Rattle.jser_records.proofs.RoomLemmas.{took_more}
use Rattle.jser_records.proofs.ToldLemmas.{quiet_both, quiet_changed, quiet_then_changed}
use Rattle.jser_records.proofs.lines.read_long_line.Goals as goal

pub stretches-init : goal.stretches-init
stretches-init g c = record {
  quiet = quiet_changed c.args.clerk.now c.first_stretch-stretch.new.current _ _ c.first_stretch-stretch.ensures.keeps;
  takes = c.first_stretch-stretch.ensures.takes;
  sought = c.first_stretch-stretch.ensures.sought ∙ c.requires.sought;
}

pub returns-in-None-clause-records : goal.returns-in-None-clause-records
returns-in-None-clause-records g c =
    let was = c.args.clerk.now in
    let mid = c.stretches.clerk in
    let last = record mid { current = c.next_stretch.new.current } in
    line_ended c.args.lines was last c.end_line.new.clerk c.args.inbox.now c.next_stretch.new.inbox _ _ _ _ _ _
    (quiet_then_changed was mid last _ _ _ _ c.stretches.invariant.quiet refl c.next_stretch.ensures.keeps)
    (line_taken c.args.lines c.stretches.stretch c.args.inbox.now c.stretches.inbox c.next_stretch.new.inbox mid.current c.next_stretch.new.current c.stretches.invariant.takes c.in-None.ensures.takes) c.end_line.ensures.ends

pub returns-in-Err-clause-records : goal.returns-in-Err-clause-records
returns-in-Err-clause-records g c =
    let was = c.args.clerk.now in
    let mid = c.stretches.clerk in
    let last = record mid { current = c.next_stretch.new.current } in
    front_quiet (shape.Lines c.args.lines) at_line was c.read_more.new.clerk c.args.inbox.now _ _ _ _
    (quiet_both was last c.read_more.new.clerk _ _ _ _ _ _ (quiet_then_changed was mid last _ _ _ _ c.stretches.invariant.quiet refl c.next_stretch.ensures.keeps) c.read_more.ensures.quiet)

pub stretches-preserved : goal.stretches-preserved
stretches-preserved g c =
    let was = c.args.clerk.now in
    let mid = c.stretches.clerk in
    let last = record mid { current = c.next_stretch.new.current } in
    let from = c.args.inbox.now in
    let lines = c.args.lines in
    record {
      quiet =
          quiet_both was last c.read_more.new.clerk _ _ _ _ _ _ (quiet_then_changed was mid last _ _ _ _ c.stretches.invariant.quiet refl c.next_stretch.ensures.keeps)
          c.read_more.ensures.quiet;
      takes =
          first_later lines c.in-Some.next from c.next_stretch.new.inbox c.read_more.new.inbox c.next_stretch.new.current c.read_more.new.clerk.current
          (first_more lines c.stretches.stretch c.in-Some.next from c.stretches.inbox c.next_stretch.new.inbox mid.current c.next_stretch.new.current c.stretches.invariant.takes c.in-Some.ensures.takes)
          (took_more c.next_stretch.new.inbox c.read_more.new.inbox c.in-Ok.ensures.comes) c.read_more.ensures.current;
      sought = c.in-Ok.ensures.comes.sought ∙ c.next_stretch.ensures.sought ∙ c.stretches.invariant.sought;
    }
