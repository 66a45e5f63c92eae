use Rattle.std.proofs.Common.{rules, length, sym, ◌∙◌}
use Rattle.jser_prim.proofs.ReadLemmas.{one_more_read, all_read, no_text}
use Rattle.jser_prim.proofs.TextLemmas.{one_text}
use Rattle.jser_prim.proofs.reading.read_units.Goals as goal

pub returns-then-not-branch-clause-none : goal.returns-then-not-branch-clause-none
returns-then-not-branch-clause-none c = λ e.
    no_text c.args.bytes.now c.bytes.byte-index 0 c.bytes-test.true
    (c.push_onto.ensures.lost (search rules) (length c.args.bytes.now) _ c.bytes.invariant)

pub returns-then-not-branch-clause-only : goal.returns-then-not-branch-clause-only
returns-then-not-branch-clause-only c = λ told u e.
    absurd (no_text c.args.bytes.now c.bytes.byte-index 0 c.bytes-test.true
    (c.push_onto.ensures.lost (search rules) (length c.args.bytes.now) _ c.bytes.invariant) told u e)

pub bytes-preserved : goal.bytes-preserved
bytes-preserved c =
    one_more_read c.args.bytes.now _ _ c.bytes.byte-index _ c.bytes-test.true
    (c.push_onto.ensures.goes_on (search rules) (length c.args.bytes.now) _ c.bytes.invariant)

pub returns-clause-spelled : goal.returns-clause-spelled
returns-clause-spelled c = λ e. all_read c.args.bytes.now _ _ c.bytes.byte-index c.bytes-test.false c.bytes.invariant

pub returns-clause-only : goal.returns-clause-only
returns-clause-only c = λ told u e.
    one_text c.bytes.units.items told c.bytes.invariant.are_units u
    (all_read c.args.bytes.now _ _ c.bytes.byte-index c.bytes-test.false c.bytes.invariant ∙ sym e)
