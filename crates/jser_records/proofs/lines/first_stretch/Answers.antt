use Rattle.std.proofs.Common.{◌≤◌, ◌+◌, length, subst}
use Rattle.jser_records.specs.Arriving.{room_size}
use Rattle.jser_records.specs.Held.{Holds}
use Rattle.jser_records.specs.Stretches.{InStretch}
use Rattle.jser_records.proofs.LineLemmas.{LeavesLast, first_taken}
use Rattle.jser_records.proofs.lines.first_stretch.Goals as goal

pub returns-clause-takes : goal.returns-clause-takes
returns-clause-takes g c =
    let count = c.whole_count-count.result in
    let lines = c.args.lines in
    let r = c.begin_line-stretch.new.current in
    let s = c.begin_line-stretch.result in
    let whole = c.whole_count-count.ensures in
    first_taken lines s c.args.inbox.now c.pass.new.self count r c.requires.none c.requires.long (subst (λ xs. length xs ≤ count + 1) c.waiting.ensures whole.most)
    (subst (λ xs. LeavesLast xs count) c.waiting.ensures (record { clean = whole.clean; marked = whole.marked; left = whole.left })) c.pass.ensures
    (subst (λ xs. Holds r xs) c.front.ensures c.begin_line-stretch.ensures.held)
    (subst (λ xs. room_size ≤ length xs + 1 → InStretch s lines.spelling lines.field xs r.reading) c.front.ensures c.begin_line-stretch.ensures.on)
