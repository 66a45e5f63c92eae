-- Kept tries: an empty one, one more node, and one more word.
use Rattle.std.proofs.Common.{◌≡◌, ℕ, zero, suc, ◌+◌, ◌<◌, Bool, true, false, ◌&&◌, ◌==◌, nat_eq, cond, List, [], ◌∷◌, ◌++◌, length, Option, Some, None, option_and_then, refl, ap, sym, ◌∙◌, subst, arith}
use Rattle.std.specs.List.{slice_index_or, slice_set}
use Rattle.std.specs.HashMap as hash
use Rattle.std.proofs.lemmas.Bool.{and_from, and_parts, eq-eqb, eqb-true, eqb-false}
use Rattle.std.proofs.lemmas.List.{get_or-set_same, get_or-set_other, length_push, length-set}
use Rattle.jser_filter.specs.declared.trie.Trie.{Trie}
use Rattle.jser_filter.specs.declared.trie.Node.{Node}
use Rattle.jser_filter.specs.declared.trie.Edge.{Edge}
use Rattle.jser_filter.specs.Trie.{Edges, Marks, IsTree, IsTrie, Keeps, LeadsOn, Reaches, AddsWord, blank, node_of, edge_with, other_edge, edge_of, mark_of, first_of, first_from, least}
use Rattle.jser_filter.proofs.TreeLemmas.{least_none, none_some, marks, grown_first, grown_after, grown_tree, after_letter}

-- an item that is the default at the end of a list

default_last : {X : Type 0} (d : X) (items : List X) (n : ℕ) → slice_index_or (items ++ d ∷ []) n d ≡ slice_index_or items n d
default_last d [] zero = refl
default_last d [] (suc n) = refl
default_last d (item ∷ items) zero = refl
default_last d (item ∷ items) (suc n) = default_last d items n

default_past : {X : Type 0} (d : X) (items : List X) → slice_index_or items (length items) d ≡ d
default_past d [] = refl
default_past d (item ∷ items) = default_past d items

-- no words

no_edges : (trie : Trie) → trie.others.entries ≡ [] → trie.nodes.items ≡ blank ∷ [] → (node letter : ℕ) → edge_of trie node letter ≡ None
no_edges trie none one node letter =
    ap (λ items. edge_with (slice_index_or items node blank).first (other_edge trie node letter) letter) one
    ∙ ap (λ n. edge_with n.first (other_edge trie node letter) letter) (default_last blank [] node)
    ∙ rw none refl

pub no_words : (trie : Trie) → trie.others.entries ≡ [] → trie.nodes.items ≡ blank ∷ [] → (letters : List ℕ) → first_of trie letters ≡ None
no_words trie none one [] = ap (λ items. (slice_index_or items 0 blank).mark) one
no_words trie none one (letter ∷ letters) =
    ap (λ o. least (mark_of trie 0) (option_and_then (λ n. first_from (edge_of trie) (mark_of trie) n letters) o)) (no_edges trie none one 0 letter)
    ∙ least_none (mark_of trie 0)
    ∙ ap (λ items. (slice_index_or items 0 blank).mark) one

pub empty_trie : (trie : Trie) → trie.others.entries ≡ [] → trie.nodes.items ≡ blank ∷ [] → IsTrie trie
empty_trie trie none one = record {
  tree = record {
    path = λ node. [];
    grows = λ from letter next is. none_some next (sym (no_edges trie none one from letter) ∙ is);
    from_within = λ from letter next is. none_some next (sym (no_edges trie none one from letter) ∙ is);
    within = λ from letter next is. none_some next (sym (no_edges trie none one from letter) ∙ is);
  };
  rooted = omega (arith, ap length one);
}

-- one more node

pub leads_there : (trie : Trie) (from letter next : ℕ) → IsTrie trie → edge_of trie from letter ≡ Some next → LeadsOn trie trie from (letter ∷ []) next
leads_there trie from letter next is_trie is = record {
  inside = is_trie.tree.within from letter next is;
  reached = λ word after. after_letter (edge_of trie) 0 word letter ∙ ap (option_and_then (λ n. edge_of trie n letter)) after ∙ is;
}

pub record Extended (old new : Trie) (from letter next : ℕ) : Type 0 where
  pub keeps : Keeps old new
  pub leads : LeadsOn old new from (letter ∷ []) next

extended : (old new : Trie) (from letter : ℕ) → IsTrie old → from < length old.nodes.items → edge_of old from letter ≡ None
    → ((f l : ℕ) → edge_of new f l ≡ cond ((from == f) && (letter == l)) (Some (length old.nodes.items)) (edge_of old f l))
    → ((node : ℕ) → mark_of new node ≡ mark_of old node)
    → length new.nodes.items ≡ length old.nodes.items + 1 → Extended old new from letter (length old.nodes.items)
extended old new from letter is_trie inside free edges same more =
    let count : ℕ = length old.nodes.items in
    let none : mark_of new count ≡ None = same count ∙ ap (λ n. n.mark) (default_past blank old.nodes.items) in
    let there : edge_of new from letter ≡ Some count =
    edges from letter
    ∙ ap (λ b. cond b (Some count) (edge_of old from letter)) (and_from (from == from) (letter == letter) (eq-eqb from from refl) (eq-eqb letter letter refl))
    in
    record {
      keeps = record {
        is_trie = record {
          tree = subst (IsTree (edge_of new)) (sym more) (grown_tree (edge_of old) (edge_of new) (mark_of old) (mark_of new) from letter count is_trie.tree inside free edges (λ node less. same node) none);
          rooted = omega (arith, more);
        };
        first = λ letters. grown_first (edge_of old) (edge_of new) (mark_of old) (mark_of new) from letter count is_trie.tree inside free edges (λ node less. same node) none 0 letters is_trie.rooted;
        reached = λ word node after. grown_after (edge_of old) (edge_of new) (mark_of old) (mark_of new) from letter count is_trie.tree inside free edges (λ n less. same n) none 0 word node after;
      };
      leads = record {
        inside = omega (arith, more);
        reached = λ word after.
            after_letter (edge_of new) 0 word letter
            ∙ ap (option_and_then (λ n. edge_of new n letter)) (grown_after (edge_of old) (edge_of new) (mark_of old) (mark_of new) from letter count is_trie.tree inside free edges (λ n less. same n) none 0 word from after)
            ∙ there;
      };
    }

-- a node that was set, and a new one
module _ (old new : Trie) (node : ℕ) (kept : Node) (items : new.nodes.items ≡ slice_set old.nodes.items node kept ++ blank ∷ []) where
  node_else : (other : ℕ) → (other ≡ node → ⊥) → node_of new other ≡ node_of old other
  node_else other apart =
      ap (λ ns. slice_index_or ns other blank) items
      ∙ default_last blank (slice_set old.nodes.items node kept) other
      ∙ get_or-set_other old.nodes.items node other kept blank apart

  node_set : node < length old.nodes.items → node_of new node ≡ kept
  node_set inside =
      ap (λ ns. slice_index_or ns node blank) items
      ∙ default_last blank (slice_set old.nodes.items node kept) node
      ∙ get_or-set_same old.nodes.items node kept blank inside

  mark_set : node < length old.nodes.items → kept.mark ≡ mark_of old node → (other : ℕ) (test : Bool) → (other == node) ≡ test → mark_of new other ≡ mark_of old other
  mark_set inside mark other true here =
      let same : other ≡ node = eqb-true other node here in
      ap (mark_of new) same ∙ ap (λ n. n.mark) (node_set inside) ∙ mark ∙ ap (mark_of old) (sym same)
  mark_set inside mark other false apart = ap (λ n. n.mark) (node_else other (eqb-false other node apart))

first_edges : (old new : Trie) (from letter to : ℕ) (kept : Node) → from < length old.nodes.items → new.nodes.items ≡ slice_set old.nodes.items from kept ++ blank ∷ []
    → kept.first ≡ Some record { letter = letter; to = to } → (node_of old from).first ≡ None → new.others ≡ old.others
    → (f l : ℕ) (one two : Bool) → (from == f) ≡ one → (letter == l) ≡ two → edge_of new f l ≡ cond (one && two) (Some to) (edge_of old f l)
first_edges old new from letter to kept inside items first was others f l false two apart any =
    ap (λ n. edge_with n.first (other_edge new f l) l) (node_else old new from kept items f (λ e. eqb-false from f apart (sym e)))
    ∙ ap (λ o. edge_with (node_of old f).first (hash.get (λ x y. nat_eq x.0 y.0 && nat_eq x.1 y.1) o (f, l)) l) others
first_edges old new from letter to kept inside items first was others f l true two here any =
    let same : f ≡ from = sym (eqb-true from f here) in
    ap (λ n. edge_with (node_of new n).first (other_edge new f l) l) same
    ∙ ap (λ n. edge_with n.first (other_edge new f l) l) (node_set old new from kept items inside)
    ∙ ap (λ e. edge_with e (other_edge new f l) l) first
    ∙ ap (λ b. cond b (Some to) (other_edge new f l)) any
    ∙ ap (λ o. cond two (Some to) (hash.get (λ x y. nat_eq x.0 y.0 && nat_eq x.1 y.1) o (f, l))) others
    ∙ ap (λ e. cond two (Some to) (edge_with e (other_edge old f l) l)) (sym (ap (λ n. (node_of old n).first) same ∙ was))

pub extended_first : (old new : Trie) (from letter to : ℕ) (kept : Node) → IsTrie old → from < length old.nodes.items → edge_of old from letter ≡ None
    → (node_of old from).first ≡ None → to ≡ length old.nodes.items → kept.first ≡ Some record { letter = letter; to = to } → kept.mark ≡ mark_of old from
    → new.nodes.items ≡ slice_set old.nodes.items from kept ++ blank ∷ [] → new.others ≡ old.others → Extended old new from letter to
extended_first old new from letter to kept is_trie inside free was is first mark items others =
    subst (Extended old new from letter) (sym is)
    (extended old new from letter is_trie inside free
    (λ f l. first_edges old new from letter to kept inside items first was others f l (from == f) (letter == l) refl refl
    ∙ ap (λ n. cond ((from == f) && (letter == l)) (Some n) (edge_of old f l)) is)
    (λ node. mark_set old new from kept items inside mark node (node == from) refl)
    (ap length items ∙ length_push (slice_set old.nodes.items from kept) blank ∙ ap (λ n. n + 1) (length-set old.nodes.items from kept)))

-- an edge that is not the first
edge_beside : (first : Option Edge) (other : Option ℕ) (to letter : ℕ) → edge_with first other letter ≡ None → edge_with first (Some to) letter ≡ Some to
edge_beside None other to letter free = refl
edge_beside (Some edge) other to letter free = beside (edge.letter == letter) free
  where
    beside : (test : Bool) → cond test (Some edge.to) other ≡ None → cond test (Some edge.to) (Some to) ≡ Some to
    beside true free = none_some edge.to (sym free)
    beside false free = refl

other_edges : (old new : Trie) (from letter to : ℕ) → edge_of old from letter ≡ None → ((f : ℕ) → node_of new f ≡ node_of old f)
    → ((f l : ℕ) → other_edge new f l ≡ cond ((from == f) && (letter == l)) (Some to) (other_edge old f l))
    → (f l : ℕ) (test : Bool) → ((from == f) && (letter == l)) ≡ test → edge_of new f l ≡ cond test (Some to) (edge_of old f l)
other_edges old new from letter to free nodes others f l false apart =
    ap (λ n. edge_with n.first (other_edge new f l) l) (nodes f)
    ∙ ap (λ o. edge_with (node_of old f).first o l) (others f l ∙ ap (λ b. cond b (Some to) (other_edge old f l)) apart)
other_edges old new from letter to free nodes others f l true here =
    let both = and_parts (from == f) (letter == l) here in
    let free_here : edge_of old f l ≡ None = ap (λ n. edge_of old n l) (sym (eqb-true from f both.0)) ∙ ap (edge_of old from) (sym (eqb-true letter l both.1)) ∙ free in
    ap (λ n. edge_with n.first (other_edge new f l) l) (nodes f)
    ∙ ap (λ o. edge_with (node_of old f).first o l) (others f l ∙ ap (λ b. cond b (Some to) (other_edge old f l)) here)
    ∙ edge_beside (node_of old f).first (other_edge old f l) to l free_here

pub extended_other : (old new : Trie) (from letter to : ℕ) → IsTrie old → from < length old.nodes.items → edge_of old from letter ≡ None
    → ((q : ℕ × ℕ) → hash.get (λ x y. nat_eq x.0 y.0 && nat_eq x.1 y.1) new.others q ≡ cond (nat_eq from q.0 && nat_eq letter q.1) (Some to) (hash.get (λ x y. nat_eq x.0 y.0 && nat_eq x.1 y.1) old.others q))
    → to ≡ length old.nodes.items → new.nodes.items ≡ old.nodes.items ++ blank ∷ [] → Extended old new from letter to
extended_other old new from letter to is_trie inside free updates is items =
    let nodes : (f : ℕ) → node_of new f ≡ node_of old f = λ f. ap (λ ns. slice_index_or ns f blank) items ∙ default_last blank old.nodes.items f in
    subst (Extended old new from letter) (sym is)
    (extended old new from letter is_trie inside free
    (λ f l. other_edges old new from letter to free nodes (λ n m. updates (n, m)) f l ((from == f) && (letter == l)) refl
    ∙ ap (λ n. cond ((from == f) && (letter == l)) (Some n) (edge_of old f l)) is)
    (λ node. ap (λ n. n.mark) (nodes node))
    (ap length items ∙ length_push old.nodes.items blank))

-- one more word

same_ahead : (edge edge' : Edges) (mark : Marks) (letters : List ℕ) (from to : Option ℕ) → from ≡ to
    → ((next : ℕ) → first_from edge' mark next letters ≡ first_from edge mark next letters)
    → option_and_then (λ next. first_from edge' mark next letters) from ≡ option_and_then (λ next. first_from edge mark next letters) to
same_ahead edge edge' mark letters from None is same = ap (option_and_then (λ next. first_from edge' mark next letters)) is
same_ahead edge edge' mark letters from (Some next) is same = ap (option_and_then (λ n. first_from edge' mark n letters)) is ∙ same next

same_first : (edge edge' : Edges) (mark : Marks) → ((node letter : ℕ) → edge' node letter ≡ edge node letter) → (node : ℕ) (letters : List ℕ) → first_from edge' mark node letters ≡ first_from edge mark node letters
same_first edge edge' mark same node [] = refl
same_first edge edge' mark same node (letter ∷ letters) =
    ap (least (mark node)) (same_ahead edge edge' mark letters (edge' node letter) (edge node letter) (same node letter) (λ next. same_first edge edge' mark same next letters))

same_tree : (edge edge' : Edges) (count : ℕ) → ((node letter : ℕ) → edge' node letter ≡ edge node letter) → IsTree edge count → IsTree edge' count
same_tree edge edge' count same tree = record {
  path = tree.path;
  grows = λ from letter next is. tree.grows from letter next (sym (same from letter) ∙ is);
  from_within = λ from letter next is. tree.from_within from letter next (sym (same from letter) ∙ is);
  within = λ from letter next is. tree.within from letter next (sym (same from letter) ∙ is);
}

set_first : (old new : Trie) (node : ℕ) (kept : Node) → node < length old.nodes.items → new.nodes.items ≡ slice_set old.nodes.items node kept → kept.first ≡ (node_of old node).first
    → (other : ℕ) (test : Bool) → (other == node) ≡ test → (node_of new other).first ≡ (node_of old other).first
set_first old new node kept inside items first other true here =
    let same : other ≡ node = eqb-true other node here in
    ap (λ n. (node_of new n).first) same
    ∙ ap (λ ns. (slice_index_or ns node blank).first) items
    ∙ ap (λ n. n.first) (get_or-set_same old.nodes.items node kept blank inside)
    ∙ first
    ∙ ap (λ n. (node_of old n).first) (sym same)
set_first old new node kept inside items first other false apart =
    ap (λ ns. (slice_index_or ns other blank).first) items
    ∙ ap (λ n. n.first) (get_or-set_other old.nodes.items node other kept blank (eqb-false other node apart))

pub marked_word : (old new : Trie) (node place : ℕ) (kept : Node) → IsTrie old → node < length old.nodes.items
    → new.others ≡ old.others → new.nodes.items ≡ slice_set old.nodes.items node kept → kept.first ≡ (node_of old node).first → kept.mark ≡ least (mark_of old node) (Some place)
    → (word : List ℕ) → Reaches old word node → AddsWord old new word place
marked_word old new node place kept is_trie inside others items first mark word after =
    let count : length new.nodes.items ≡ length old.nodes.items = ap length items ∙ length-set old.nodes.items node kept in
    let edges : (f l : ℕ) → edge_of new f l ≡ edge_of old f l =
    λ f l. ap (λ e. edge_with e (other_edge new f l) l) (set_first old new node kept inside items first f (f == node) refl)
    ∙ ap (λ o. edge_with (node_of old f).first (hash.get (λ x y. nat_eq x.0 y.0 && nat_eq x.1 y.1) o (f, l)) l) others
    in
    record {
      is_trie = record {
        tree = subst (IsTree (edge_of new)) (sym count) (same_tree (edge_of old) (edge_of new) (length old.nodes.items) edges is_trie.tree);
        rooted = omega (arith, count, is_trie.rooted);
      };
      first = λ letters.
          same_first (edge_of old) (edge_of new) (mark_of new) edges 0 letters
          ∙ marks (edge_of old) (mark_of old) (mark_of new) (length old.nodes.items) node place is_trie.tree
          (λ other apart. ap (λ ns. (slice_index_or ns other blank).mark) items ∙ ap (λ n. n.mark) (get_or-set_other old.nodes.items node other kept blank apart))
          (ap (λ ns. (slice_index_or ns node blank).mark) items ∙ ap (λ n. n.mark) (get_or-set_same old.nodes.items node kept blank inside) ∙ mark)
          0 word letters after;
    }
