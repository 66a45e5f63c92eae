use Rattle.std.proofs.Common.{Some, refl, ap, ◌∙◌}
use Rattle.jser_filter.specs.Trie.{least}
use Rattle.jser_filter.proofs.TrieLemmas.{marked_word}
use Rattle.jser_filter.proofs.trie.Trie.mark.Goals as goal

pub returns : goal.returns
returns c word after =
    marked_word c.args.self.now _ c.args.node c.args.place record { mark = c.least.result; first = c.node_at-kept.result.first } c.requires.is_trie c.requires.inside refl refl
    (ap (λ n. n.first) c.node_at-kept.ensures)
    (c.least.ensures ∙ ap (λ n. least n.mark (Some c.args.place)) c.node_at-kept.ensures)
    word after
