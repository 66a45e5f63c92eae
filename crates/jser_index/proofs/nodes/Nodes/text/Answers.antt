use Rattle.std.proofs.Common.{rules, Some, subst}
use Rattle.jser_index.specs.Graphs.{text_of, node_in}
use Rattle.jser_index.specs.Listed.{IsList, all_lists}
use Rattle.jser_index.proofs.NodeLemmas.{text_is, text_lent}
use Rattle.jser_index.proofs.nodes.Nodes.text.Goals as goal

pub returns : goal.returns
returns c =
    subst (λ x. IsList (text_of (node_in (all_lists x) c.args.epoch c.args.number)) (Some c.get.result)) c.self.view_is
    (text_is c.self.inside.strings c.self.inside.nodes c.args.epoch c.args.number (Some c.in_ok-stored.stored) (Some c.get.result) (search rules)
    (text_lent c.self.inside.strings c.in_ok-stored.stored c.in_ok-spot.spot c.get.result (search rules) c.get.ensures))
