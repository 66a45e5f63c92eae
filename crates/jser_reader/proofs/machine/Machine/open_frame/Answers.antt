use Rattle.std.proofs.Common.{rules}
use Rattle.jser_reader.proofs.WholeLemmas.{no_other, other_assigned}
use Rattle.jser_reader.proofs.ManyObjects.{has_put, none_put, opens, put_parts, opens_nothing}
use Rattle.jser_reader.proofs.machine.Machine.open_frame.Goals as goal

pub returns-then-not-put_frame : goal.returns-then-not-put_frame
returns-then-not-put_frame c = none_put c.args.frame _ _ _ c.put_frame.ensures (search rules)

pub returns-then-assign_other : goal.returns-then-assign_other
returns-then-assign_other c =
    opens c.args.frame _ _ _ (has_put c.args.frame _ _ _ c.put_frame.ensures (search rules)) (other_assigned _ _ _ c.assign_other.ensures (search rules))

pub drop_frame-requires : goal.drop_frame-requires
drop_frame-requires c =
    put_parts c.args.frame _ _ _ c.requires.part (has_put c.args.frame _ _ _ c.put_frame.ensures (search rules)) (no_other _ _ _ c.assign_other.ensures (search rules))

pub returns : goal.returns
returns c =
    opens_nothing c.args.frame _ _ _ _ (has_put c.args.frame _ _ _ c.put_frame.ensures (search rules)) (no_other _ _ _ c.assign_other.ensures (search rules)) c.drop_frame.ensures
