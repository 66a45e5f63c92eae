use Rattle.std.proofs.Common.{rules, ◌≡◌, ◌∷◌, [], ◌++◌, length}
use Rattle.jser_filter.specs.Trie.{blank}
use Rattle.jser_filter.proofs.TrieLemmas.{Extended, extended_other}
use Rattle.jser_filter.proofs.trie.Trie.grow_other.Goals as goal

grown : (c : goal.After-push_reserved) → Extended c.args.self.now record { nodes = c.push_reserved.new.self; others = c.insert.new.self } c.args.node c.args.letter c.len-to.result
grown c =
    let to_is : c.len-to.result ≡ length c.args.self.now.nodes.items = search rules in
    let items : c.push_reserved.new.self.items ≡ c.args.self.now.nodes.items ++ blank ∷ [] = search rules in
    extended_other c.args.self.now record { nodes = c.push_reserved.new.self; others = c.insert.new.self } c.args.node c.args.letter c.len-to.result
    c.requires.is_trie c.requires.inside c.requires.free c.in_ok-insert.ensures.updates.0 to_is items

pub returns-clause-keeps : goal.returns-clause-keeps
returns-clause-keeps c = (grown c).keeps

pub returns-clause-leads : goal.returns-clause-leads
returns-clause-leads c = (grown c).leads
