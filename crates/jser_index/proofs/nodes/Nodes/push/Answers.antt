use Rattle.std.proofs.Common.{None, sym}
use Rattle.jser_index.proofs.KeptLemmas.{extends_none}
use Rattle.jser_index.proofs.StoredLemmas.{node_pushed, node_told}
use Rattle.jser_index.proofs.nodes.Nodes.push.Goals as goal

pub invariant_of-self : goal.invariant_of-self
invariant_of-self c =
    node_pushed c.push.result c.self.inside.strings c.self.inside.strings c.in_ok-stored.stored _ _ None c.self.inside.nodes c.push.new.self
    (extends_none c.self.inside.strings) c.in_ok-stored.ensures tt c.push.ensures.last c.push.ensures.ended c.push.ensures.unchanged c.self.invariant

pub returns : goal.returns
returns c =
    node_told c.push.result c.args.self.now c.self.inside.strings c.self.inside.strings c.in_ok-stored.stored _ _ None c.self.inside.nodes c.push.new.self
    (sym c.self.view_is) (extends_none c.self.inside.strings) c.in_ok-stored.ensures c.push.ensures.last c.push.ensures.ended c.self.invariant
