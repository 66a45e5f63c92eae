use Rattle.std.proofs.Common.{rules, ◌≤◌, ◌<◌, ◌++◌, [], length, ap, subst, ◌∙◌, arith}
use Rattle.std.proofs.lemmas.List.{take_all}
use Rattle.jser_records.specs.declared.layout.Shape.TheVariants as shape
use Rattle.jser_records.specs.Held.{Holds}
use Rattle.jser_records.specs.Lines.{LineCame}
use Rattle.jser_records.specs.Sized.{at_line}
use Rattle.jser_records.proofs.LineLemmas.{last_line, line_ended}
use Rattle.jser_records.proofs.RecordLemmas.{records_none}
use Rattle.jser_records.proofs.ToldLemmas.{quiet_changed}
use Rattle.jser_records.proofs.lines.take_last_line.Goals as goal

pub returns-then-count-eq0-clause-records : goal.returns-then-count-eq0-clause-records
returns-then-count-eq0-clause-records g c = records_none (shape.Lines c.args.lines) at_line c.args.clerk.now c.args.inbox.now _ _

pub returns-clause-records : goal.returns-clause-records
returns-clause-records g c =
    let was = c.args.clerk.now in
    let from = c.args.inbox.now in
    let size = ap length c.waiting-count.ensures in
    let all : length from.waiting ≤ length c.waiting-count.result.now = omega (arith, size) in
    let some : 0 < length from.waiting = search rules in
    line_ended c.args.lines was (record was { current = c.take_line.new.current }) c.end_line.new.clerk from c.pass.new.self _ _ _ _ _ _
    (quiet_changed was c.take_line.new.current _ _ c.take_line.ensures.keeps)
    (last_line c.args.lines from c.pass.new.self (length c.waiting-count.result.now) c.take_line.new.current c.requires.none some all c.requires.ends c.pass.ensures
    (subst (λ xs. LineCame c.args.lines xs c.take_line.new.current.reading) (c.front.ensures ∙ take_all _ from.waiting all) c.take_line.ensures.came)
    (subst (λ xs. Holds c.take_line.new.current (xs ++ [])) (c.front.ensures ∙ take_all _ from.waiting all) c.take_line.ensures.held))
    c.end_line.ensures.ends
