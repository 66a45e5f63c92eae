use Rattle.std.proofs.Common.{Some, sym}
use Rattle.jser_index.proofs.StoredLemmas.{node_pushed, units_told}
use Rattle.jser_index.proofs.nodes.Nodes.push_text.Goals as goal

pub invariant_of-self-2 : goal.invariant_of-self-2
invariant_of-self-2 c =
    node_pushed c.push.result c.self.inside.strings c.add.new.self c.in_ok-stored.stored _ _ (Some c.in_ok-spot.spot) c.self.inside.nodes c.push.new.self
    c.add.ensures.kept c.in_ok-stored.ensures c.in_ok-spot.ensures.units.within c.push.ensures.last c.push.ensures.ended c.push.ensures.unchanged c.self.invariant

pub returns : goal.returns
returns c =
    units_told c.push.result c.args.self.now c.self.inside.strings c.add.new.self c.in_ok-stored.stored c.args.tag_byte c.in_ok-spot.spot c.args.units.now
    c.self.inside.nodes c.push.new.self (sym c.self.view_is) c.add.ensures.kept c.in_ok-stored.ensures c.in_ok-spot.ensures.units.is c.push.ensures.last
    c.push.ensures.ended c.self.invariant
