-- Patterns as words of a trie: the way of a word, and a word at its end.
use Rattle.std.proofs.Common.{◌≡◌, ℕ, ◌+◌, ◌<◌, ◌≤◌, cond, List, [], ◌∷◌, ◌++◌, length, take, drop, get_or, Option, Some, None, refl, ap, sym, ◌∙◌, subst, arith, append_assoc, length-append}
use Rattle.std.proofs.lemmas.List.{append-nil, map_more, map_push, map-append, drop_at}
use Rattle.jser_filter.specs.declared.trie.Walk.{Walk}
use Rattle.jser_filter.specs.declared.trie.Trie.{Trie}
use Rattle.jser_filter.specs.Index.{name_in, package_in, first_in_module}
use Rattle.jser_filter.specs.Patterns.{package_of}
use Rattle.jser_filter.proofs.MatchLemmas.{cut_name}
use Rattle.jser_filter.specs.Trie.{Keeps, LeadsOn, Reaches, AddsWord, edge_of, mark_of, first_of, least, begins, step, walk_along}
use Rattle.jser_filter.specs.Words.{letter, letters, in_module, of_module, of_name, of_end, of_package}
use Rattle.jser_filter.proofs.TreeLemmas.{walk-append, walk_first}

pub keeps_on : (old mid new : Trie) → Keeps old mid → Keeps mid new → Keeps old new
keeps_on old mid new one two = record {
  is_trie = two.is_trie;
  first = λ letters. two.first letters ∙ one.first letters;
  reached = λ word node after. two.reached word node (one.reached word node after);
}

pub leads_on : (old mid new : Trie) (from at to : ℕ) (front back : List ℕ) → LeadsOn old mid from front at → LeadsOn mid new at back to → LeadsOn old new from (front ++ back) to
leads_on old mid new from at to front back one two = record {
  inside = two.inside;
  reached = λ word after.
      subst (λ w. Reaches new w to) (append_assoc word front back) (two.reached (word ++ front) (one.reached word after));
}

-- a name in a module
pub leads_into : (old mid new : Trie) (at to : ℕ) (module_name name : List ℕ) → LeadsOn old mid 0 (of_module ∷ (letters module_name ++ of_name ∷ [])) at
    → LeadsOn mid new at name to → LeadsOn old new 0 (in_module module_name name) to
leads_into old mid new at to module_name name one two =
    subst (λ w. LeadsOn old new 0 (of_module ∷ w) to) (append_assoc (letters module_name) (of_name ∷ []) name)
    (leads_on old mid new 0 at to (of_module ∷ (letters module_name ++ of_name ∷ [])) name one two)

pub leads_nowhere : (trie : Trie) (node : ℕ) → node < length trie.nodes.items → LeadsOn trie trie node [] node
leads_nowhere trie node inside = record {
  inside = inside;
  reached = λ word after. subst (λ w. Reaches trie w node) (sym (append-nil word)) after;
}

pub word_added : (old mid new : Trie) (word : List ℕ) (node place : ℕ) → Keeps old mid → LeadsOn old mid 0 word node
    → ((w : List ℕ) → Reaches mid w node → AddsWord mid new w place) → AddsWord old new word place
word_added old mid new word node place keeps leads added =
    let here = added word (leads.reached [] refl) in
    record {
      is_trie = here.is_trie;
      first = λ letters. here.first letters ∙ ap (λ f. cond (begins word letters) (least f (Some place)) f) (keeps.first letters);
    }

pub more_letters : (units : List ℕ) (index unit : ℕ) → index < length units → unit ≡ get_or units index unit → letters (take (index + 1) units) ≡ letters (take index units) ++ letter unit ∷ []
more_letters units index unit inside here = map_more letter units index unit inside ∙ ap (λ u. letters (take index units) ++ letter u ∷ []) (sym here)

-- the way along some letters was gone
pub record HasGone (old now : Trie) (from : ℕ) (letters : List ℕ) (at : ℕ) : Type 0 where
  pub keeps : Keeps old now
  pub leads : LeadsOn old now from letters at

pub gone_on : (old mid new : Trie) (from at to : ℕ) (units : List ℕ) (index unit : ℕ) → HasGone old mid from (letters (take index units)) at
    → index < length units → unit ≡ get_or units index unit → Keeps mid new → LeadsOn mid new at (letter unit ∷ []) to
    → HasGone old new from (letters (take (index + 1) units)) to
gone_on old mid new from at to units index unit gone inside here keeps leads = record {
  keeps = keeps_on old mid new gone.keeps keeps;
  leads = subst (λ w. LeadsOn old new from w to) (sym (more_letters units index unit inside here))
      (leads_on old mid new from at to (letters (take index units)) (letter unit ∷ []) gone.leads leads);
}

-- walks

-- the walk along no letters
abbrev pub at_root : Trie → Walk
at_root trie = record { node = Some 0; first = mark_of trie 0 }

abbrev pub walk_of : Trie → Walk → List ℕ → Walk
walk_of trie walk word = walk_along (edge_of trie) (mark_of trie) walk word

pub walk_is_first : (trie : Trie) (word : List ℕ) → (walk_of trie (at_root trie) word).first ≡ first_of trie word
walk_is_first trie word = walk_first (edge_of trie) (mark_of trie) 0 None word

pub walk_into : (trie : Trie) (walk : Walk) (word : List ℕ) → step (edge_of trie) (mark_of trie) (walk_of trie (step (edge_of trie) (mark_of trie) walk of_module) word) of_name ≡ walk_of trie walk (of_module ∷ (word ++ of_name ∷ []))
walk_into trie walk word = sym (walk-append (edge_of trie) (mark_of trie) (step (edge_of trie) (mark_of trie) walk of_module) word (of_name ∷ []))

pub walk_in : (trie : Trie) (module_name word : List ℕ)
    → (walk_of trie (walk_of trie (at_root trie) (of_module ∷ (letters module_name ++ of_name ∷ []))) word).first ≡ first_of trie (in_module module_name word)
walk_in trie module_name word =
    ap (λ w. w.first) (sym (walk-append (edge_of trie) (mark_of trie) (at_root trie) (of_module ∷ (letters module_name ++ of_name ∷ [])) word))
    ∙ ap (λ w. (walk_of trie (at_root trie) (of_module ∷ w)).first) (append_assoc (letters module_name) (of_name ∷ []) word)
    ∙ walk_is_first trie (in_module module_name word)

pub walk_name : (trie : Trie) (walk : Walk) (units : List ℕ) → step (edge_of trie) (mark_of trie) (walk_of trie walk (letters units)) of_end ≡ walk_of trie walk (letters units ++ of_end ∷ [])
walk_name trie walk units = sym (walk-append (edge_of trie) (mark_of trie) walk (letters units) (of_end ∷ []))

-- a name by its package and what is left of it
package_front : (name package_name : List ℕ) → package_of name ≡ Some package_name → package_name ++ drop (length package_name) name ≡ name
package_front name package_name is =
    let cut = cut_name name package_name is in
    let whole : name ≡ package_name ++ 0x2E ∷ cut.rest = cut.joined ∙ append_assoc package_name (0x2E ∷ []) cut.rest in
    ap (λ n. package_name ++ drop (length package_name) n) whole
    ∙ ap (λ back. package_name ++ back) (drop_at package_name (0x2E ∷ cut.rest) (length package_name) refl)
    ∙ sym whole

pub package_within : (name package_name : List ℕ) → package_of name ≡ Some package_name → length package_name ≤ length name
package_within name package_name is =
    omega (arith, ap length (package_front name package_name is), length-append package_name (drop (length package_name) name))

pub name_first : (trie : Trie) (module_name name : List ℕ) (walk : Walk) (first : Option ℕ) → walk ≡ walk_of trie (at_root trie) (of_module ∷ (letters module_name ++ of_name ∷ []))
    → first ≡ (walk_of trie walk (letters name ++ of_end ∷ [])).first → first ≡ first_of trie (name_in module_name name)
name_first trie module_name name walk first is told =
    told ∙ ap (λ w. (walk_of trie w (letters name ++ of_end ∷ [])).first) is ∙ walk_in trie module_name (letters name ++ of_end ∷ [])

pub package_first : (trie : Trie) (module_name package_name name : List ℕ) (walk inside : Walk) (aside on first : Option ℕ) → package_of name ≡ Some package_name
    → walk ≡ walk_of trie (at_root trie) (of_module ∷ (letters module_name ++ of_name ∷ [])) → inside ≡ walk_of trie walk (letters package_name)
    → aside ≡ (walk_of trie inside (letter 0x2E ∷ of_package ∷ [])).first
    → on ≡ (walk_of trie inside (letters (drop (length package_name) name) ++ of_end ∷ [])).first
    → first ≡ least aside on → first ≡ first_in_module trie module_name (Some package_name) name
package_first trie module_name package_name name walk inside aside on first its is in_package aside_is on_is told =
    let base : Walk = walk_of trie (at_root trie) (of_module ∷ (letters module_name ++ of_name ∷ [])) in
    let there : inside ≡ walk_of trie base (letters package_name) = in_package ∙ ap (λ w. walk_of trie w (letters package_name)) is in
    let one : aside ≡ first_of trie (package_in module_name package_name) =
    aside_is
    ∙ ap (λ w. (walk_of trie w (letter 0x2E ∷ of_package ∷ [])).first) there
    ∙ ap (λ w. w.first) (sym (walk-append (edge_of trie) (mark_of trie) base (letters package_name) (letter 0x2E ∷ of_package ∷ [])))
    ∙ ap (λ ls. (walk_of trie base ls).first) (sym (append_assoc (letters package_name) (letter 0x2E ∷ []) (of_package ∷ [])) ∙ ap (λ ls. ls ++ of_package ∷ []) (sym (map_push letter package_name 0x2E)))
    ∙ walk_in trie module_name (letters (package_name ++ 0x2E ∷ []) ++ of_package ∷ [])
    in
    let rest : List ℕ = drop (length package_name) name in
    let two : on ≡ first_of trie (name_in module_name name) =
    on_is
    ∙ ap (λ w. (walk_of trie w (letters rest ++ of_end ∷ [])).first) there
    ∙ ap (λ w. w.first) (sym (walk-append (edge_of trie) (mark_of trie) base (letters package_name) (letters rest ++ of_end ∷ [])))
    ∙ ap (λ ls. (walk_of trie base ls).first)
    (sym (append_assoc (letters package_name) (letters rest) (of_end ∷ [])) ∙ ap (λ ls. ls ++ of_end ∷ []) (sym (map-append letter package_name rest) ∙ ap letters (package_front name package_name its)))
    ∙ walk_in trie module_name (letters name ++ of_end ∷ [])
    in
    told ∙ ap (λ o. least o on) one ∙ ap (least (first_of trie (package_in module_name package_name))) two
