use Rattle.std.proofs.Common.{rules, Some, subst}
use Rattle.jser_index.specs.Graphs.{IsNode, node_in}
use Rattle.jser_index.specs.Listed.{all_lists}
use Rattle.jser_index.proofs.NodeLemmas.{node_is}
use Rattle.jser_index.proofs.nodes.Nodes.node.Goals as goal

pub returns : goal.returns
returns c =
    subst (λ x. IsNode (node_in (all_lists x) c.args.epoch c.args.number) (Some c.node.result)) c.self.view_is
    (node_is c.self.inside.strings c.self.inside.nodes c.args.epoch c.args.number (Some c.in_ok-stored.stored) (Some c.node.result)
    (search rules) (c.node.ensures.kind, c.node.ensures.tag_byte))
