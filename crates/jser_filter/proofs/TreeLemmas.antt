-- Trees of letters: one more mark, one more edge, and walks.
use Rattle.std.proofs.Common.{◌≡◌, ℕ, ◌+◌, ◌<◌, ◌⊎◌, inl, inr, Bool, true, false, ◌&&◌, ◌==◌, cond, nat_lt, List, [], ◌∷◌, ◌++◌, Option, Some, None, option_and_then, refl, ap, sym, ◌∙◌, arith}
use Rattle.std.proofs.lemmas.List.{append-nil, append_assoc, append_cancel_left}
use Rattle.std.proofs.lemmas.Bool.{eqb-true, eqb-false, eq-eqb, ne_eqb, and_parts}
use Rattle.jser_filter.specs.Trie.{Edges, Marks, least, first_from, node_after, IsTree, enter, step, walk_along, begins}
use Rattle.jser_filter.specs.declared.trie.Walk.{Walk}

-- the lesser of two numbers

pub least_none : (one : Option ℕ) → least one None ≡ one
least_none None = refl
least_none (Some one) = refl

least_cases : (a b c : ℕ) (p q : Bool) → nat_lt b a ≡ p → nat_lt c b ≡ q → least (least (Some a) (Some b)) (Some c) ≡ least (Some a) (least (Some b) (Some c))
least_cases a b c p q is other = grind (arith)

pub least_assoc : (a b c : Option ℕ) → least (least a b) c ≡ least a (least b c)
least_assoc None b c = refl
least_assoc (Some a) None c = refl
least_assoc (Some a) (Some b) None = least_none (least (Some a) (Some b))
least_assoc (Some a) (Some b) (Some c) = least_cases a b c (nat_lt b a) (nat_lt c b) refl refl

pub least_comm : (a b : Option ℕ) → least a b ≡ least b a
least_comm None b = sym (least_none b)
least_comm (Some a) None = refl
least_comm (Some a) (Some b) = either a b (nat_lt b a) (nat_lt a b) refl refl
  where
    either : (a b : ℕ) (p q : Bool) → nat_lt b a ≡ p → nat_lt a b ≡ q → least (Some a) (Some b) ≡ least (Some b) (Some a)
    either a b p q is other = grind (arith)

same_some : (a b : ℕ) → Some a ≡ Some b → a ≡ b
same_some a b e = cc

pub none_some : {X : Type 0} (a : ℕ) → None ≡ Some a → X
none_some a e = absurd cc

-- paths

path_through : (edge : Edges) (count : ℕ) (tree : IsTree edge count) (from letter : ℕ) (word : List ℕ) (node : ℕ)
    → ((next : ℕ) → node_after edge next word ≡ Some node → tree.path node ≡ tree.path next ++ word)
    → (reached : Option ℕ) → edge from letter ≡ reached → option_and_then (λ next. node_after edge next word) reached ≡ Some node
    → tree.path node ≡ tree.path from ++ letter ∷ word
path_through edge count tree from letter word node rest (Some next) is after =
    rest next after
    ∙ ap (λ front. front ++ word) (tree.grows from letter next is)
    ∙ append_assoc (tree.path from) (letter ∷ []) word
path_through edge count tree from letter word node rest None is after = none_some node after

pub path_after : (edge : Edges) (count : ℕ) (tree : IsTree edge count) (from : ℕ) (word : List ℕ) (node : ℕ) → node_after edge from word ≡ Some node → tree.path node ≡ tree.path from ++ word
path_after edge count tree from [] node after = ap tree.path (sym (same_some from node after)) ∙ sym (append-nil (tree.path from))
path_after edge count tree from (letter ∷ word) node after =
    path_through edge count tree from letter word node (λ next. path_after edge count tree next word node) (edge from letter) refl after

-- one more mark

-- where the marked node does not lie ahead, nothing changes
ahead : (edge : Edges) (mark mark' : Marks) (letters : List ℕ) (reached : Option ℕ)
    → ((next : ℕ) → reached ≡ Some next → first_from edge mark' next letters ≡ first_from edge mark next letters)
    → option_and_then (λ next. first_from edge mark' next letters) reached ≡ option_and_then (λ next. first_from edge mark next letters) reached
ahead edge mark mark' letters None same = refl
ahead edge mark mark' letters (Some next) same = same next refl

unmarked : (edge : Edges) (mark mark' : Marks) (at : ℕ) → ((node : ℕ) → (node ≡ at → ⊥) → mark' node ≡ mark node)
    → (node : ℕ) (letters : List ℕ) → ((word : List ℕ) → node_after edge node word ≡ Some at → ⊥)
    → first_from edge mark' node letters ≡ first_from edge mark node letters
unmarked edge mark mark' at same node [] never = same node (λ e. never [] (ap Some e))
unmarked edge mark mark' at same node (letter ∷ letters) never =
    let here : mark' node ≡ mark node = same node (λ e. never [] (ap Some e)) in
    let rest = ahead edge mark mark' letters (edge node letter)
    (λ next is. unmarked edge mark mark' at same next letters
    (λ word after. never (letter ∷ word) (ap (option_and_then (λ n. node_after edge n word)) is ∙ after)))
    in
    ap (λ m. least m (option_and_then (λ next. first_from edge mark' next letters) (edge node letter))) here
    ∙ ap (least (mark node)) rest

longer : (xs : List ℕ) (y : ℕ) (ys : List ℕ) → xs ≡ xs ++ y ∷ ys → ⊥
longer xs y ys e = nil_cons y ys (append_cancel_left xs [] (y ∷ ys) (append-nil xs ∙ e))
  where
    nil_cons : (y : ℕ) (ys : List ℕ) → [] ≡ y ∷ ys → ⊥
    nil_cons y ys e = cc

heads : (x y : ℕ) (xs ys : List ℕ) → x ∷ xs ≡ y ∷ ys → x ≡ y
heads x y xs ys e = cc

-- the place of a mark at the end of a word is found along all that the word begins
module _ (edge : Edges) (mark mark' : Marks) (count at place : ℕ) (tree : IsTree edge count)
    (same : (node : ℕ) → (node ≡ at → ⊥) → mark' node ≡ mark node)
    (marked : mark' at ≡ least (mark at) (Some place)) where
  beyond : (letter next : ℕ) (letters : List ℕ) → edge at letter ≡ Some next → first_from edge mark' next letters ≡ first_from edge mark next letters
  beyond letter next letters is =
      unmarked edge mark mark' at same next letters (λ word after.
      longer (tree.path at) letter word
      (path_after edge count tree at (letter ∷ word) at (ap (option_and_then (λ n. node_after edge n word)) is ∙ after)))

  aside : (node wanted letter next ahead : ℕ) (word letters : List ℕ) → node_after edge ahead word ≡ Some at → edge node wanted ≡ Some ahead → (wanted ≡ letter → ⊥)
      → edge node letter ≡ Some next → first_from edge mark' next letters ≡ first_from edge mark next letters
  aside node wanted letter next ahead word letters after is other is_next =
      unmarked edge mark mark' at same next letters (λ back back_after.
      let one = path_after edge count tree node (wanted ∷ word) at (ap (option_and_then (λ n. node_after edge n word)) is ∙ after) in
      let two = path_after edge count tree node (letter ∷ back) at (ap (option_and_then (λ n. node_after edge n back)) is_next ∙ back_after) in
      other (heads wanted letter word back (append_cancel_left (tree.path node) (wanted ∷ word) (letter ∷ back) (sym one ∙ two))))

  here_last : (m r : Option ℕ) → least (least m (Some place)) r ≡ least (least m r) (Some place)
  here_last m r = least_assoc m (Some place) r ∙ ap (least m) (least_comm (Some place) r) ∙ sym (least_assoc m r (Some place))

  below_last : (b : Bool) (m r : Option ℕ) → least m (cond b (least r (Some place)) r) ≡ cond b (least (least m r) (Some place)) (least m r)
  below_last true m r = sym (least_assoc m r (Some place))
  below_last false m r = refl

  not_here : (node wanted ahead : ℕ) (word : List ℕ) → edge node wanted ≡ Some ahead → node_after edge ahead word ≡ Some at → node ≡ at → ⊥
  not_here node wanted ahead word is after here =
      longer (tree.path at) wanted word
      (path_after edge count tree node (wanted ∷ word) at (ap (option_and_then (λ n. node_after edge n word)) is ∙ after)
      ∙ ap (λ n. tree.path n ++ wanted ∷ word) here)

  -- the letters go on where the word does, or elsewhere
  marks_ahead : (node wanted letter next : ℕ) (word letters : List ℕ) → edge node wanted ≡ Some next → node_after edge next word ≡ Some at
      → first_from edge mark' next letters ≡ cond (begins word letters) (least (first_from edge mark next letters) (Some place)) (first_from edge mark next letters)
      → (test : Bool) → (wanted == letter) ≡ test
      → first_from edge mark' node (letter ∷ letters) ≡ cond (test && begins word letters) (least (first_from edge mark node (letter ∷ letters)) (Some place)) (first_from edge mark node (letter ∷ letters))
  marks_ahead node wanted letter next word letters is after rest true equal =
      let there : edge node letter ≡ Some next = ap (edge node) (sym (eqb-true wanted letter equal)) ∙ is in
      ap (λ m. least m (option_and_then (λ n. first_from edge mark' n letters) (edge node letter))) (same node (not_here node wanted next word is after))
      ∙ ap (λ o. least (mark node) (option_and_then (λ n. first_from edge mark' n letters) o)) there
      ∙ ap (least (mark node)) rest
      ∙ below_last (begins word letters) (mark node) (first_from edge mark next letters)
      ∙ ap (λ o. cond (begins word letters) (least (least (mark node) (option_and_then (λ n. first_from edge mark n letters) o)) (Some place)) (least (mark node) (option_and_then (λ n. first_from edge mark n letters) o))) (sym there)
  marks_ahead node wanted letter next word letters is after rest false apart =
      ap (λ m. least m (option_and_then (λ n. first_from edge mark' n letters) (edge node letter))) (same node (not_here node wanted next word is after))
      ∙ ap (least (mark node)) (ahead edge mark mark' letters (edge node letter)
      (λ other other_is. aside node wanted letter other next word letters after is (eqb-false wanted letter apart) other_is))

  marks_from : (node wanted : ℕ) (word letters : List ℕ) (reached : Option ℕ) → edge node wanted ≡ reached → option_and_then (λ n. node_after edge n word) reached ≡ Some at
      → ((next : ℕ) (rest : List ℕ) → node_after edge next word ≡ Some at → first_from edge mark' next rest ≡ cond (begins word rest) (least (first_from edge mark next rest) (Some place)) (first_from edge mark next rest))
      → first_from edge mark' node letters ≡ cond (begins (wanted ∷ word) letters) (least (first_from edge mark node letters) (Some place)) (first_from edge mark node letters)
  marks_from node wanted word letters None is after below = none_some at after
  marks_from node wanted word [] (Some next) is after below = same node (not_here node wanted next word is after)
  marks_from node wanted word (letter ∷ letters) (Some next) is after below =
      marks_ahead node wanted letter next word letters is after (below next letters after) (wanted == letter) refl

  pub marks : (node : ℕ) (word letters : List ℕ) → node_after edge node word ≡ Some at
      → first_from edge mark' node letters ≡ cond (begins word letters) (least (first_from edge mark node letters) (Some place)) (first_from edge mark node letters)
  marks node [] [] after =
      let here : node ≡ at = same_some node at after in
      ap mark' here ∙ marked ∙ ap (λ n. least (mark n) (Some place)) (sym here)
  marks node [] (letter ∷ letters) after =
      let here : node ≡ at = same_some node at after in
      ap (λ n. first_from edge mark' n (letter ∷ letters)) here
      ∙ ap (λ m. least m (option_and_then (λ n. first_from edge mark' n letters) (edge at letter))) marked
      ∙ ap (least (least (mark at) (Some place))) (ahead edge mark mark' letters (edge at letter) (λ next is. beyond letter next letters is))
      ∙ here_last (mark at) (option_and_then (λ n. first_from edge mark n letters) (edge at letter))
      ∙ ap (λ n. least (first_from edge mark n (letter ∷ letters)) (Some place)) (sym here)
  marks node (wanted ∷ word) letters after =
      marks_from node wanted word letters (edge node wanted) refl after (λ next rest next_after. marks next word rest next_after)

-- one more edge, to a node without mark that is new
module _ (edge edge' : Edges) (mark mark' : Marks) (from letter count : ℕ) (tree : IsTree edge count) (inside : from < count)
    (free : edge from letter ≡ None)
    (edges : (f l : ℕ) → edge' f l ≡ cond ((from == f) && (letter == l)) (Some count) (edge f l))
    (same : (node : ℕ) → node < count → mark' node ≡ mark node)
    (new : mark' count ≡ None) where
  edge_cases : (f l : ℕ) (test : Bool) → ((from == f) && (letter == l)) ≡ test → (((f ≡ from) × (l ≡ letter)) × (edge' f l ≡ Some count)) ⊎ (edge' f l ≡ edge f l)
  edge_cases f l true here =
      let both = and_parts (from == f) (letter == l) here in
      inl ((sym (eqb-true from f both.0), sym (eqb-true letter l both.1)), edges f l ∙ ap (λ b. cond b (Some count) (edge f l)) here)
  edge_cases f l false apart = inr (edges f l ∙ ap (λ b. cond b (Some count) (edge f l)) apart)

  no_edge_here : (f l : ℕ) → f ≡ from → l ≡ letter → edge f l ≡ None
  no_edge_here f l one two = ap (λ x. edge x l) one ∙ ap (edge from) two ∙ free

  pub old_edge : (f l next : ℕ) → edge f l ≡ Some next → edge' f l ≡ Some next
  old_edge f l next is = elim (edge_cases f l ((from == f) && (letter == l)) refl) [
    | inl here ↦ none_some next (sym (no_edge_here f l here.0.0 here.0.1) ∙ is)
    | inr other ↦ other ∙ is
  ]

  none_from_new : (l : ℕ) (reached : Option ℕ) → edge count l ≡ reached → reached ≡ None
  none_from_new l None is = refl
  none_from_new l (Some next) is = absurd (let less : count < count = tree.from_within count l next is in omega arith)

  new_edges : (l : ℕ) → edge' count l ≡ None
  new_edges l = elim (edge_cases count l ((from == count) && (letter == l)) refl) [
    | inl here ↦ absurd (let same_node : count ≡ from = here.0.0 in omega arith)
    | inr other ↦ other ∙ none_from_new l (edge count l) refl
  ]

  none_new : (letters : List ℕ) → first_from edge' mark' count letters ≡ None
  none_new [] = new
  none_new (l ∷ letters) =
      ap (λ o. least (mark' count) (option_and_then (λ n. first_from edge' mark' n letters) o)) (new_edges l)
      ∙ least_none (mark' count) ∙ new

  grown_ahead : (letters : List ℕ) (reached : Option ℕ)
      → ((next : ℕ) → reached ≡ Some next → first_from edge' mark' next letters ≡ first_from edge mark next letters)
      → option_and_then (λ next. first_from edge' mark' next letters) reached ≡ option_and_then (λ next. first_from edge mark next letters) reached
  grown_ahead letters None rest = refl
  grown_ahead letters (Some next) rest = rest next refl

  pub grown_first : (node : ℕ) (letters : List ℕ) → node < count → first_from edge' mark' node letters ≡ first_from edge mark node letters
  grown_first node [] less = same node less
  grown_first node (l ∷ letters) less =
      let rest : (next : ℕ) → edge node l ≡ Some next → first_from edge' mark' next letters ≡ first_from edge mark next letters =
      λ next is. grown_first next letters (tree.within node l next is) in
      ap (λ m. least m (option_and_then (λ n. first_from edge' mark' n letters) (edge' node l))) (same node less)
      ∙ elim (edge_cases node l ((from == node) && (letter == l)) refl) [
        | inl here ↦
            ap (λ o. least (mark node) (option_and_then (λ n. first_from edge' mark' n letters) o)) here.1
            ∙ ap (least (mark node)) (none_new letters)
            ∙ ap (λ o. least (mark node) (option_and_then (λ n. first_from edge mark n letters) o)) (sym (no_edge_here node l here.0.0 here.0.1))
        | inr other ↦
            ap (λ o. least (mark node) (option_and_then (λ n. first_from edge' mark' n letters) o)) other
            ∙ ap (least (mark node)) (grown_ahead letters (edge node l) rest)
      ]

  old_after : (word : List ℕ) (node : ℕ) (reached : Option ℕ) (f l : ℕ) → edge f l ≡ reached
      → ((next : ℕ) → node_after edge next word ≡ Some node → node_after edge' next word ≡ Some node)
      → option_and_then (λ n. node_after edge n word) reached ≡ Some node → option_and_then (λ n. node_after edge' n word) (edge' f l) ≡ Some node
  old_after word node None f l is rest after = none_some node after
  old_after word node (Some next) f l is rest after = ap (option_and_then (λ n. node_after edge' n word)) (old_edge f l next is) ∙ rest next after

  pub grown_after : (start : ℕ) (word : List ℕ) (node : ℕ) → node_after edge start word ≡ Some node → node_after edge' start word ≡ Some node
  grown_after start [] node after = after
  grown_after start (l ∷ word) node after = old_after word node (edge start l) start l refl (λ next. grown_after next word node) after

  abbrev path' : ℕ → List ℕ
  path' node = cond (node == count) (tree.path from ++ letter ∷ []) (tree.path node)

  path_old : (node : ℕ) → node < count → path' node ≡ tree.path node
  path_old node less = ap (λ b. cond b (tree.path from ++ letter ∷ []) (tree.path node)) (ne_eqb node count (λ e. omega arith))

  path_new : path' count ≡ tree.path from ++ letter ∷ []
  path_new = ap (λ b. cond b (tree.path from ++ letter ∷ []) (tree.path count)) (eq-eqb count count refl)

  pub grown_tree : IsTree edge' (count + 1)
  grown_tree = record {
    path = path';
    grows = λ f l next is. elim (edge_cases f l ((from == f) && (letter == l)) refl) [
      | inl here ↦
          let new_node : next ≡ count = same_some next count (sym is ∙ here.1) in
          ap path' new_node ∙ path_new
          ∙ ap (λ front. front ++ letter ∷ []) (sym (path_old from inside))
          ∙ ap (λ x. path' x ++ letter ∷ []) (sym here.0.0)
          ∙ ap (λ x. path' f ++ x ∷ []) (sym here.0.1)
      | inr other ↦
          let was : edge f l ≡ Some next = sym other ∙ is in
          path_old next (tree.within f l next was) ∙ tree.grows f l next was
          ∙ ap (λ front. front ++ l ∷ []) (sym (path_old f (tree.from_within f l next was)))
    ];
    from_within = λ f l next is. elim (edge_cases f l ((from == f) && (letter == l)) refl) [
      | inl here ↦ let at : f ≡ from = here.0.0 in omega arith
      | inr other ↦ let less : f < count = tree.from_within f l next (sym other ∙ is) in omega arith
    ];
    within = λ f l next is. elim (edge_cases f l ((from == f) && (letter == l)) refl) [
      | inl here ↦ let new_node : next ≡ count = same_some next count (sym is ∙ here.1) in omega arith
      | inr other ↦ let less : next < count = tree.within f l next (sym other ∙ is) in omega arith
    ];
  }

-- walks

pub after_letter : (edge : Edges) (start : ℕ) (word : List ℕ) (letter : ℕ) → node_after edge start (word ++ letter ∷ []) ≡ option_and_then (λ node. edge node letter) (node_after edge start word)
after_letter edge start [] letter = after_one (edge start letter)
  where
    after_one : (reached : Option ℕ) → option_and_then (λ next. Some next) reached ≡ reached
    after_one None = refl
    after_one (Some next) = refl
after_letter edge start (first ∷ word) letter = after_rest edge word letter (edge start first) (λ next. after_letter edge next word letter)
  where
    after_rest : (edge : Edges) (word : List ℕ) (letter : ℕ) (reached : Option ℕ)
        → ((next : ℕ) → node_after edge next (word ++ letter ∷ []) ≡ option_and_then (λ node. edge node letter) (node_after edge next word))
        → option_and_then (λ next. node_after edge next (word ++ letter ∷ [])) reached ≡ option_and_then (λ node. edge node letter) (option_and_then (λ next. node_after edge next word) reached)
    after_rest edge word letter None rest = refl
    after_rest edge word letter (Some next) rest = rest next

pub walk_ended : (edge : Edges) (mark : Marks) (first : Option ℕ) (letters : List ℕ) → walk_along edge mark record { node = None; first = first } letters ≡ record { node = None; first = first }
walk_ended edge mark first [] = refl
walk_ended edge mark first (letter ∷ letters) = walk_ended edge mark first letters

pub walk-append : (edge : Edges) (mark : Marks) (walk : Walk) (front back : List ℕ) → walk_along edge mark walk (front ++ back) ≡ walk_along edge mark (walk_along edge mark walk front) back
walk-append edge mark walk [] back = refl
walk-append edge mark walk (letter ∷ front) back = walk-append edge mark (step edge mark walk letter) front back

walk_on : (edge : Edges) (mark : Marks) (node : ℕ) (before : Option ℕ) (letters : List ℕ) (reached : Option ℕ)
    → ((next : ℕ) (b : Option ℕ) → (walk_along edge mark record { node = Some next; first = least b (mark next) } letters).first ≡ least b (first_from edge mark next letters))
    → (walk_along edge mark (enter mark (least before (mark node)) reached) letters).first ≡ least before (least (mark node) (option_and_then (λ next. first_from edge mark next letters) reached))
walk_on edge mark node before letters None rest =
    ap (λ w. w.first) (walk_ended edge mark (least before (mark node)) letters) ∙ ap (least before) (sym (least_none (mark node)))
walk_on edge mark node before letters (Some next) rest =
    rest next (least before (mark node)) ∙ least_assoc before (mark node) (first_from edge mark next letters)

pub walk_first : (edge : Edges) (mark : Marks) (node : ℕ) (before : Option ℕ) (letters : List ℕ)
    → (walk_along edge mark record { node = Some node; first = least before (mark node) } letters).first ≡ least before (first_from edge mark node letters)
walk_first edge mark node before [] = refl
walk_first edge mark node before (letter ∷ letters) =
    walk_on edge mark node before letters (edge node letter) (λ next b. walk_first edge mark next b letters)
