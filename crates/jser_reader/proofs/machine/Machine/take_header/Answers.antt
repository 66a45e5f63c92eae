use Rattle.std.proofs.Common.{rules}
use Rattle.jser_reader.proofs.HeaderLemmas.{header_ends, header_wrong}
use Rattle.jser_reader.proofs.machine.Machine.take_header.Goals as goal

pub returns-then-place-count-eq4 : goal.returns-then-place-count-eq4
returns-then-place-count-eq4 c =
    header_ends c.args.piece.now c.header_place-place.result c.right_bytes-count.result c.done-flow.result c.after.result c.args.self.now _ c.done-flow.new.self
    c.right_bytes-count.ensures.right c.header_place-place.ensures.is c.header_place-place.ensures.within c.if-place-count-eq4.true (search rules) c.requires.open
    c.done-flow.ensures.next c.done-flow.ensures.result c.after.ensures

pub returns : goal.returns
returns c =
    header_wrong c.args.piece.now c.header_place-place.result c.right_bytes-count.result c.refuse-flow.result c.after-2.result c.args.self.now _ c.refuse-flow.new.self
    c.right_bytes-count.ensures.right c.right_bytes-count.ensures.wrong c.header_place-place.ensures.is c.if-place-count-eq4.false c.if-count-piece.false (search rules) c.requires.open
    c.refuse-flow.ensures.stops c.refuse-flow.ensures.result c.after-2.ensures
