use Rattle.std.proofs.Common.{arith, rules}
use Rattle.jser_reader.proofs.ManyArrays.{array_begins, no_count}
use Rattle.jser_reader.proofs.machine.Machine.array_at.Goals as goal

pub empty_array-requires-clause-begins : goal.empty_array-requires-clause-begins
empty_array-requires-clause-begins c =
    no_count c.args.piece.now c.in-Some.n c.in-Ok.chain c.number_in-count.result _ _
    (array_begins c.args.piece.now c.in-Some.n c.in-Ok.chain c.number_in-count.result 0 _ _ c.requires.holds (c.has_place_at.ensures.place (search rules)) (search rules)
    (omega (arith, c.requires.room)) c.requires.tag c.in-Some.ensures (omega arith) c.in-Ok.ensures.is c.number_in-count.ensures (search rules)) (search rules)

pub raw_array-requires-clause-begins : goal.raw_array-requires-clause-begins
raw_array-requires-clause-begins c =
    array_begins c.args.piece.now c.in-Some.n c.in-Ok.chain c.number_in-count.result 0 _ _ c.requires.holds (c.has_place_at.ensures.place (search rules)) (search rules)
    (omega (arith, c.requires.room)) c.requires.tag c.in-Some.ensures (omega arith) c.in-Ok.ensures.is c.number_in-count.ensures (search rules)

pub value_array-requires-clause-begins : goal.value_array-requires-clause-begins
value_array-requires-clause-begins c =
    array_begins c.args.piece.now c.in-Some.n c.in-Ok.chain c.number_in-count.result 0 _ _ c.requires.holds (c.has_place_at.ensures.place (search rules)) (search rules)
    (omega (arith, c.requires.room)) c.requires.tag c.in-Some.ensures (omega arith) c.in-Ok.ensures.is c.number_in-count.ensures (search rules)
