use Rattle.jser_filter.specs.Words.{letters}
use Rattle.jser_filter.proofs.WordLemmas.{word_added}
use Rattle.jser_filter.proofs.words.add_front.Goals as goal

pub returns-clause-ok : goal.returns-clause-ok
returns-clause-ok c =
    word_added c.args.trie.now c.extend_along.new.trie c.mark.new.self (letters c.args.front.now) c.in_ok-node.node c.args.place c.in_ok-node.ensures.keeps c.in_ok-node.ensures.leads c.mark.ensures
