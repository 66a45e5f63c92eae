use Rattle.jser_filter.specs.Patterns.{view_name}
use Rattle.jser_filter.specs.Words.{in_module, name_word}
use Rattle.jser_filter.proofs.WordLemmas.{word_added, keeps_on, leads_into}
use Rattle.jser_filter.proofs.words.add_in_module.Goals as goal

pub returns-clause-ok : goal.returns-clause-ok
returns-clause-ok c =
    let name = name_word (view_name c.args.name.now) in
    let old = c.args.trie.now in
    let mid = c.extend_module.new.trie in
    let new = c.extend_name.new.trie in
    word_added old new c.mark.new.self (in_module c.args.module.now name) c.in_ok-node.node c.args.place
    (keeps_on old mid new c.in_ok-module.ensures.keeps c.in_ok-node.ensures.keeps)
    (leads_into old mid new c.in_ok-module.module c.in_ok-node.node c.args.module.now name c.in_ok-module.ensures.leads c.in_ok-node.ensures.leads)
    c.mark.ensures
