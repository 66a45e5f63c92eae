use Rattle.std.proofs.Common.{length}
use Rattle.uses_prim.proofs.Units.{starts, has_room, goes_on, whole}
use Rattle.uses_prim.proofs.texts.units_in.Goals as goal

pub bytes-init : goal.bytes-init
bytes-init c = starts _ c.args.bytes.now _ _ c.new-units.ensures.items c.new-scan.ensures.accepted

pub push_onto-requires : goal.push_onto-requires
push_onto-requires c = has_room c.args.bytes.now _ _ c.bytes.byte-index c.bytes-test.true c.bytes.invariant

pub bytes-preserved : goal.bytes-preserved
bytes-preserved c =
    goes_on c.args.bytes.now _ _ c.bytes.byte-index _ c.bytes-test.true
    (c.in_ok-push_onto.ensures c.if-not-branch.false (length c.args.bytes.now) _ c.bytes.invariant)

pub returns-then-is_done : goal.returns-then-is_done
returns-then-is_done c =
    whole c.args.bytes.now _ c.bytes.byte-index c.bytes-test.false
    (c.is_done.ensures.text (length c.args.bytes.now) _ _ c.bytes.invariant c.if-is_done.true)
