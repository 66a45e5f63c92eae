use Rattle.std.proofs.Common.{Some, sym}
use Rattle.std.proofs.lemmas.Result.{on_ok_weaker}
use Rattle.jser_index.proofs.StoredLemmas.{node_pushed, node_told, adds_node}
use Rattle.jser_index.proofs.nodes.Nodes.push_string.Goals as goal

pub invariant_of-self-2 : goal.invariant_of-self-2
invariant_of-self-2 c =
    node_pushed c.push.result c.self.inside.strings c.add_text.new.self c.in_ok-stored.stored _ _ (Some c.in_ok-spot.spot) c.self.inside.nodes c.push.new.self
    c.add_text.ensures.kept c.in_ok-stored.ensures c.in_ok-spot.ensures.text.within c.push.ensures.last c.push.ensures.ended c.push.ensures.unchanged
    c.self.invariant

pub returns : goal.returns
returns c =
    on_ok_weaker c.push.result
    (λ e. adds_node c.args.bytes.now c.args.tag_byte c.add_text.new.self c.in_ok-spot.spot c.args.self.now _ c.in_ok-spot.ensures.text e)
    (node_told c.push.result c.args.self.now c.self.inside.strings c.add_text.new.self c.in_ok-stored.stored _ c.args.tag_byte (Some c.in_ok-spot.spot) c.self.inside.nodes
    c.push.new.self (sym c.self.view_is) c.add_text.ensures.kept c.in_ok-stored.ensures c.push.ensures.last c.push.ensures.ended c.self.invariant)
