use Rattle.jser_value.specs.View.{view_contents}
use Rattle.uses_trees.proofs.Again.{not_refused_stop}
use Rattle.uses_trees.proofs.store.read_again.Goals as goal

pub unreachable-requires : goal.unreachable-requires
unreachable-requires c =
    not_refused_stop c.args.written.now (view_contents c.args.contents.now) c.in-Err-Refused.field-0 c.in-Err-Refused.field-0-0 c.in-Err-Refused.field-0-is c.written_passes.ensures c.requires
    c.list.ensures.obeys c.in-Err-Refused.ensures.refused
