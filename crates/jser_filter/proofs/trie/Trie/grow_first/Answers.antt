use Rattle.std.proofs.Common.{rules, ◌≡◌, ◌∷◌, [], ◌++◌, length, Some, refl, ap, ◌∙◌}
use Rattle.std.specs.List.{slice_index_or, slice_set}
use Rattle.jser_filter.specs.declared.trie.Node.{Node}
use Rattle.jser_filter.specs.Trie.{blank, mark_of}
use Rattle.jser_filter.proofs.TrieLemmas.{Extended, extended_first}
use Rattle.jser_filter.proofs.trie.Trie.grow_first.Goals as goal

grown : (c : goal.After-push_reserved) → Extended c.args.self.now record { nodes = c.push_reserved.new.self; others = c.args.self.now.others } c.args.node c.args.letter c.len-to.result
grown c =
    let old = c.args.self.now in
    let kept : Node = record { mark = c.node_at-mark.result.mark; first = Some record { letter = c.args.letter; to = c.len-to.result } } in
    let same = c.in_ok-reserve.ensures.items in
    let to_is : c.len-to.result ≡ length old.nodes.items = search rules in
    let mark : kept.mark ≡ mark_of old c.args.node = ap (λ n. n.mark) c.node_at-mark.ensures ∙ ap (λ ns. (slice_index_or ns c.args.node blank).mark) same in
    let items : c.push_reserved.new.self.items ≡ slice_set old.nodes.items c.args.node kept ++ blank ∷ [] = c.push_reserved.ensures.items ∙ ap (λ ns. slice_set ns c.args.node kept ++ blank ∷ []) same in
    extended_first old record { nodes = c.push_reserved.new.self; others = old.others } c.args.node c.args.letter c.len-to.result kept
    c.requires.is_trie c.requires.inside c.requires.free c.requires.first to_is refl mark items refl

pub returns-clause-keeps : goal.returns-clause-keeps
returns-clause-keeps c = (grown c).keeps

pub returns-clause-leads : goal.returns-clause-leads
returns-clause-leads c = (grown c).leads
