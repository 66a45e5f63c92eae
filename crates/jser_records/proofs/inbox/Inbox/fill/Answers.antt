-- The bytes that a read gave lie behind those that waited.
use Rattle.std.proofs.Common.{◌≡◌, ◌≤◌, ◌+◌, ◌==◌, length, take, drop, IfOk, sym, ap, subst, ◌∙◌, arith}
use Rattle.std.proofs.lemmas.Bool.{eqb-true}
use Rattle.std.proofs.lemmas.List.{length-drop, with_items_is}
use Rattle.std.specs.Vec.{with_items}
use Rattle.std.specs.Io.KnownBytes.{ReadConsumes}
use Rattle.jser_records.specs.Arriving.{Holds, ComesMore, view_of}
use Rattle.jser_records.proofs.RoomLemmas.{filled_comes, filled_holds}
use Rattle.jser_records.proofs.inbox.Inbox.fill.Goals as goal

pub invariant_of-self-2 : goal.invariant_of-self-2
invariant_of-self-2 g c =
    let a = c.self.inside in
    let new = c.take_behind.new.room in
    let has = g.R.Source.to_come c.take_behind.new.source in
    let over = c.in-Ok.count == 0 in
    let same : length new ≡ length a.room.items = c.take_behind.ensures.size ∙ ap length c.as_mut_slice.ensures.value in
    subst (λ r. Holds has r a.start (a.end + c.in-Ok.count) a.sought a.searched over) (sym (with_items_is a.room new (same ∙ sym a.room.ok.0)))
    (filled_holds a.room.items new has a.start a.end c.in-Ok.count a.sought a.searched over
    (c.take_behind.ensures.front ∙ ap (λ xs. take a.end xs) c.as_mut_slice.ensures.value) same
    (subst (λ r. IfOk r (λ n. n ≤ length (drop a.end new))) c.in-Ok.is c.take_behind.ensures.within) c.self.invariant.fits
    (λ none. (subst (λ r. ReadConsumes (g.R.Source.to_come a.source.now) has r (drop a.end new)) c.in-Ok.is c.take_behind.ensures.bytes).1 (eqb-true c.in-Ok.count 0 none)
    (let free = length-drop a.end new in let size = c.len.ensures in let room = a.room.ok.0 in let more = c.if-end-len.false in omega (arith, free, same, size, room, more))))

pub returns-clause-comes : goal.returns-clause-comes
returns-clause-comes g c =
    let a = c.self.inside in
    let new = c.take_behind.new.room in
    let same : length new ≡ length a.room.items = c.take_behind.ensures.size ∙ ap length c.as_mut_slice.ensures.value in
    let had = g.R.Source.to_come a.source.now in
    let has = g.R.Source.to_come c.take_behind.new.source in
    let over = c.in-Ok.count == 0 in
    subst (λ old. ComesMore old (view_of has (with_items a.room new).items a.start (a.end + c.in-Ok.count) a.sought over)) c.self.view_is
    (subst (λ r. ComesMore (view_of had a.room.items a.start a.end a.sought a.is_over) (view_of has r a.start (a.end + c.in-Ok.count) a.sought over))
    (sym (with_items_is a.room new (same ∙ sym a.room.ok.0)))
    (filled_comes a.room.items new had has a.start a.end c.in-Ok.count a.sought a.searched a.is_over over
    (c.take_behind.ensures.front ∙ ap (λ xs. take a.end xs) c.as_mut_slice.ensures.value) same
    (subst (λ r. IfOk r (λ n. n ≤ length (drop a.end new))) c.in-Ok.is c.take_behind.ensures.within)
    (subst (λ r. ReadConsumes had has r (drop a.end new)) c.in-Ok.is c.take_behind.ensures.bytes).0 c.self.invariant.fits))
