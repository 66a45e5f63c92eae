use Rattle.std.proofs.Common.{◌<◌, length, refl, ap, subst, rules}
use Rattle.jser_reader.specs.declared.machine.many.counts.Turn.TheVariants as turn
use Rattle.jser_reader.proofs.ManyEnds.{ends_first, ends_next, ends_same, none_next, settles_next, settles_not, settles_value, settles_top}
use Rattle.jser_reader.proofs.machine.Machine.end_value.Goals as goal

pub frames-init : goal.frames-init
frames-init c = ends_first c.args.piece.now _ _ c.requires

pub returns-then-next_value_on : goal.returns-then-next_value_on
returns-then-next_value_on c = settles_value c.args.piece.now _ _ _ _ _ c.next_value_on.result c.frames.invariant c.next_value_on.ensures (search rules)

pub returns-in_default : goal.returns-in_default
returns-in_default c =
    settles_top c.args.piece.now _ _ _ _ _ turn.Next (ends_same c.args.piece.now _ _ _ _ _ c.frames.invariant (none_next c.next_value_on.result _ _ c.next_value_on.ensures (search rules)).0) (search rules) c.reach_top.ensures refl

pub end_frame-requires-clause-holds : goal.end_frame-requires-clause-holds
end_frame-requires-clause-holds c =
    (ends_same c.args.piece.now _ _ _ _ _ c.frames.invariant (none_next c.next_value_on.result _ _ c.next_value_on.ensures (search rules)).0).holds

pub end_frame-requires-clause-none : goal.end_frame-requires-clause-none
end_frame-requires-clause-none c = (none_next c.next_value_on.result _ _ c.next_value_on.ensures (search rules)).1

pub returns-in-Next : goal.returns-in-Next
returns-in-Next c =
    settles_next c.args.piece.now _ _ _ _ _ _ c.end_frame.result turn.Next
    (ends_same c.args.piece.now _ _ _ _ _ c.frames.invariant (none_next c.next_value_on.result _ _ c.next_value_on.ensures (search rules)).0) c.end_frame.ensures (search rules) refl

pub returns-in-Nothing : goal.returns-in-Nothing
returns-in-Nothing c =
    settles_not c.args.piece.now _ _ _ _ _ _ c.end_frame.result turn.Ended
    (ends_same c.args.piece.now _ _ _ _ _ c.frames.invariant (none_next c.next_value_on.result _ _ c.next_value_on.ensures (search rules)).0) c.end_frame.ensures (search rules) refl

pub frames-preserved : goal.frames-preserved
frames-preserved c =
    (ends_next c.args.piece.now _ _ _ _ _ _ c.end_frame.result
    (ends_same c.args.piece.now _ _ _ _ _ c.frames.invariant (none_next c.next_value_on.result _ _ c.next_value_on.ensures (search rules)).0) c.end_frame.ensures (search rules)).0

pub frames-smaller : goal.frames-smaller
frames-smaller c =
    let same = (none_next c.next_value_on.result _ _ c.next_value_on.ensures (search rules)).0 in
    subst (λ n. length c.end_frame.new.self.frames < n) (ap (λ r. length r.frames) same)
    (ends_next c.args.piece.now _ _ _ _ _ _ c.end_frame.result (ends_same c.args.piece.now _ _ _ _ _ c.frames.invariant same) c.end_frame.ensures (search rules)).1
