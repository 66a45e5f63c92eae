use Rattle.std.proofs.Common.{◌≡◌, Some, List, ℕ, ap, sym, ◌∙◌, []}
use Rattle.std.proofs.Common.{option_map, ◌++◌, ◌∷◌}
use Rattle.jser_filter.specs.Cuts.{part_now}
use Rattle.jser_filter.specs.Index.{first_in_module}
use Rattle.jser_filter.specs.Patterns.{package_of}
use Rattle.jser_filter.specs.Trie.{edge_of, mark_of, walk_along}
use Rattle.jser_filter.specs.Words.{letters, of_end}
use Rattle.jser_filter.proofs.WordLemmas.{name_first, package_first}
use Rattle.jser_filter.proofs.words.first_in_module.Goals as goal

pub returns-in-None : goal.returns-in-None
returns-in-None c =
    let trie = c.args.trie.now in
    name_first trie c.args.module.now c.args.name.now c.into_module-in_module.result c.first_of_name.result c.into_module-in_module.ensures c.first_of_name.ensures
    ∙ sym (ap (λ p. first_in_module trie c.args.module.now (option_map part_now p) c.args.name.now) c.in-None.is)

pub returns-in-Some : goal.returns-in-Some
returns-in-Some c =
    let trie = c.args.trie.now in
    let name = c.args.name.now in
    let given : List ℕ = c.in-Some.«package».now in
    let its : package_of name ≡ Some given = sym c.requires ∙ ap (option_map part_now) c.in-Some.is in
    let on = c.first_of_name-in-Some.ensures
    ∙ ap (λ rest. (walk_along (edge_of trie) (mark_of trie) c.along-in_package.result (letters rest ++ of_end ∷ [])).first) c.split_at.ensures.back
    in
    package_first trie c.args.module.now given name c.into_module-in_module.result c.along-in_package.result c.first_of_package.result c.first_of_name-in-Some.result c.least.result
    its c.into_module-in_module.ensures c.along-in_package.ensures c.first_of_package.ensures on c.least.ensures
    ∙ sym (ap (λ p. first_in_module trie c.args.module.now (option_map part_now p) name) c.in-Some.is)
