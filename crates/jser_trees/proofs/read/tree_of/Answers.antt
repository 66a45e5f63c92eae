use Rattle.std.proofs.Common.{subst, sym}
use Rattle.std.specs.Prelude.{Vec}
use Rattle.std.specs.declared.alloc.Global.{Global}
use Rattle.jser_value.specs.declared.tree.Content.{Content}
use Rattle.jser_grammar.specs.Streams.{IsStreamOf}
use Rattle.jser_value.specs.View.{view_contents}
use Rattle.jser_trees.specs.Building.{list_in}
use Rattle.jser_trees.proofs.TreeLemmas.{obeys_caps, never_lost, is_stream, failed_lost}
use Rattle.jser_trees.proofs.read.tree_of.Goals as goal

pub from_obeying-requires : goal.from_obeying-requires
from_obeying-requires c = obeys_caps c.args.bytes.now (view_contents c.in-Ok.list.items) c.requires c.in-Ok.ensures

pub unreachable-requires : goal.unreachable-requires
unreachable-requires c =
    never_lost c.args.bytes.now c.requires
    (failed_lost (λ (list : Vec Content Global). view_contents list.items) c.in-Err-Lost.field-0 (list_in c.args.bytes.now) c.in-Err-Lost.field-0-is c.in-Err-Lost.ensures)

pub returns-in-Ok : goal.returns-in-Ok
returns-in-Ok c =
    subst (λ x. IsStreamOf c.args.bytes.now (view_contents x)) (sym c.from_obeying.ensures)
    (is_stream c.args.bytes.now (view_contents c.in-Ok.list.items) c.requires c.in-Ok.ensures)
