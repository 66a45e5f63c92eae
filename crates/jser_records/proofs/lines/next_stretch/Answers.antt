use Rattle.std.proofs.Common.{◌≡◌, ◌≤◌, ◌+◌, List, ◌++◌, ℕ, length, take, drop, ap, subst, ◌∙◌, arith}
use Rattle.std.proofs.lemmas.List.{take_all}
use Rattle.std.specs.Io.KnownBytes.{IsAtEnd}
use Rattle.jser_records.specs.Arriving.{Arriving, HasNone, IsBefore, room_size}
use Rattle.jser_records.specs.Held.{HoldsMore}
use Rattle.jser_records.specs.Stretches.{InStretch, IsApart, PieceEnds}
use Rattle.jser_records.proofs.LineLemmas.{LeavesLast, rest_ended, rest_last, some_taken}
use Rattle.jser_records.proofs.lines.next_stretch.Goals as goal

pub returns-in-Some-clause-takes : goal.returns-in-Some-clause-takes
returns-in-Some-clause-takes g c =
    let lines = c.args.lines in
    let s = c.args.stretch in
    let from = c.args.inbox.now in
    let count = c.in-Some.count in
    let was = c.args.current.now in
    let mid = c.take_last_piece.new.current in
    let taken = c.front.ensures ∙ ap (λ (a : Arriving). take count a.waiting) c.find.ensures.kept in
    rest_ended lines s from c.pass.new.self count was mid c.hold.new.self (subst (λ e. IsBefore e from.waiting count) c.requires.sought c.in-Some.ensures.found)
    (subst (λ (a : Arriving). c.pass.new.self ≡ record a { waiting = drop (count + 1) a.waiting }) c.find.ensures.kept c.pass.ensures)
    (subst (λ xs. HoldsMore was mid xs) taken c.take_last_piece.ensures.held) (subst (λ xs. HoldsMore mid c.hold.new.self xs) c.line_end.ensures c.hold.ensures.held)
    c.hold.ensures.kept
    (subst (λ xs. (line : List ℕ) → room_size ≤ length line + 1 → IsApart line xs → InStretch s lines.spelling lines.field line was.reading → PieceEnds lines line xs mid.reading) taken
    c.take_last_piece.ensures.ends)

pub returns-in-None-clause-takes : goal.returns-in-None-clause-takes
returns-in-None-clause-takes g c =
    let lines = c.args.lines in
    let s = c.args.stretch in
    let from = c.args.inbox.now in
    let was = c.args.current.now in
    let last = c.take_last_piece-in-None.new.current in
    let size = ap length (c.waiting-count.ensures ∙ ap (λ (a : Arriving). a.waiting) c.find.ensures.kept) in
    let taken =
    c.front-in-None.ensures ∙ ap (λ (a : Arriving). take (length c.waiting-count.result.now) a.waiting) c.find.ensures.kept ∙ take_all _ from.waiting (omega (arith, size)) in
    rest_last lines s from c.pass-in-None.new.self (length c.waiting-count.result.now) was last (subst (λ e. HasNone e from.waiting) c.requires.sought (c.find.ensures.none c.in-None.is))
    (omega (arith, size)) (subst (λ (a : Arriving). IsAtEnd a.to_come) c.find.ensures.kept (c.is_over.ensures.ends c.if-is_over.true))
    (subst (λ (a : Arriving). c.pass-in-None.new.self ≡ record a { waiting = drop (length c.waiting-count.result.now) a.waiting }) c.find.ensures.kept c.pass-in-None.ensures)
    (subst (λ xs. HoldsMore was last xs) taken c.take_last_piece-in-None.ensures.held)
    (subst (λ xs. (line : List ℕ) → room_size ≤ length line + 1 → IsApart line xs → InStretch s lines.spelling lines.field line was.reading → PieceEnds lines line xs last.reading) taken
    c.take_last_piece-in-None.ensures.ends)

pub returns-in-None-2-clause-takes : goal.returns-in-None-2-clause-takes
returns-in-None-2-clause-takes g c =
    let lines = c.args.lines in
    let s = c.args.stretch in
    let next = c.take_piece-next.result in
    let from = c.args.inbox.now in
    let was = c.args.current.now in
    let last = c.take_piece-next.new.current in
    let count = c.whole_count-count.result in
    let whole = c.whole_count-count.ensures in
    let waits = c.waiting.ensures ∙ ap (λ (a : Arriving). a.waiting) c.find.ensures.kept in
    let taken = c.front-in-None-2.ensures ∙ ap (λ (a : Arriving). take count a.waiting) c.find.ensures.kept in
    some_taken lines s next from c.pass-in-None-2.new.self count was last (subst (λ e. HasNone e from.waiting) c.requires.sought (c.find.ensures.none c.in-None-2.is))
    (subst (λ (a : Arriving). c.pass-in-None-2.new.self ≡ record a { waiting = drop count a.waiting }) c.find.ensures.kept c.pass-in-None-2.ensures)
    (subst (λ xs. LeavesLast xs count) waits (record { clean = whole.clean; marked = whole.marked; left = whole.left }))
    (subst (λ xs. HoldsMore was last xs) taken c.take_piece-next.ensures.held)
    (subst
    (λ xs. (line : List ℕ) → room_size ≤ length line + 1 → IsApart line xs → InStretch s lines.spelling lines.field line was.reading → InStretch next lines.spelling lines.field (line ++ xs) last.reading)
    taken c.take_piece-next.ensures.on)
