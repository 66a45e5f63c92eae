-- The nodes of an epoch, by their numbers.
use denote.Bor.{Bor}
use Rattle.std.proofs.Common.{◌≡◌, ℕ, zero, suc, List, [], ◌∷◌, ◌++◌, length, map, slice_get, Option, Some, option_map, refl, sym, ◌∙◌, ap, subst}
use Rattle.jser_index.specs.declared.node.Node.{Node}
use Rattle.jser_index.specs.declared.node.StoredNode.{StoredNode}
use Rattle.jser_index.specs.declared.spot.Spot.{Spot}
use Rattle.jser_index.specs.Keeping.{Kept, units_at}
use Rattle.jser_index.specs.StoredNodes.{view_node, spot_in, units_in}
use Rattle.jser_index.specs.Listed.{Listed, IsList}
use Rattle.jser_index.specs.Graphs.{in_list, node_in, stored_in, IsNode, text_of}

get_map : {A B : Type 0} (f : A → B) (xs : List A) (k : ℕ) → slice_get (map f xs) k ≡ option_map f (slice_get xs k)
get_map f [] k = refl
get_map f (x ∷ xs) zero = refl
get_map f (x ∷ xs) (suc k) = get_map f xs k

view_in : (kept : Kept) (ended : List (List StoredNode)) (last : List StoredNode) (epoch number : ℕ)
    → node_in (map (map (view_node kept)) ended ++ (map (view_node kept) last ∷ [])) epoch number
    ≡ option_map (view_node kept) (in_list (slice_get (ended ++ (last ∷ [])) epoch) number)
view_in kept [] last zero number = get_map (view_node kept) last number
view_in kept [] last (suc epoch) number = refl
view_in kept (list ∷ ended) last zero number = get_map (view_node kept) list number
view_in kept (list ∷ ended) last (suc epoch) number = view_in kept ended last epoch number

-- the list of an epoch

at_last : {A : Type 0} (xs : List A) (x : A) → slice_get (xs ++ (x ∷ [])) (length xs) ≡ Some x
at_last [] x = refl
at_last (y ∷ xs) x = at_last xs x

before_last : {A : Type 0} (xs : List A) (x : A) (k : ℕ) → (k ≡ length xs → ⊥) → slice_get (xs ++ (x ∷ [])) k ≡ slice_get xs k
before_last [] x zero other = absurd (other refl)
before_last [] x (suc k) other = refl
before_last (y ∷ xs) x zero other = refl
before_last (y ∷ xs) x (suc k) other = before_last xs x k (λ e. other (ap (λ n. suc n) e))

pub last_list : (lists : Listed StoredNode) (epoch number : ℕ) → epoch ≡ length lists.ended → slice_get lists.last number ≡ stored_in lists epoch number
last_list lists epoch number e =
    sym (ap (λ l. in_list l number) (ap (λ k. slice_get (lists.ended ++ (lists.last ∷ [])) k) e ∙ at_last lists.ended lists.last))

pub other_list : (lists : Listed StoredNode) (epoch number : ℕ) → (epoch ≡ length lists.ended → ⊥)
    → in_list (slice_get lists.ended epoch) number ≡ stored_in lists epoch number
other_list lists epoch number other = sym (ap (λ l. in_list l number) (before_last lists.ended lists.last epoch other))

-- what was found is told

pub node_is : (kept : Kept) (lists : Listed StoredNode) (epoch number : ℕ) (stored : Option StoredNode) (node : Option Node)
    → stored ≡ stored_in lists epoch number → IsNode (option_map (view_node kept) stored) node
    → IsNode (node_in (map (map (view_node kept)) lists.ended ++ (map (view_node kept) lists.last ∷ [])) epoch number) node
node_is kept lists epoch number stored node e h =
    subst (λ o. IsNode o node) (ap (option_map (view_node kept)) e ∙ sym (view_in kept lists.ended lists.last epoch number)) h

pub text_is : (kept : Kept) (lists : Listed StoredNode) (epoch number : ℕ) (stored : Option StoredNode) (text : Option (Bor (List ℕ)))
    → stored ≡ stored_in lists epoch number → IsList (text_of (option_map (view_node kept) stored)) text
    → IsList (text_of (node_in (map (map (view_node kept)) lists.ended ++ (map (view_node kept) lists.last ∷ [])) epoch number)) text
text_is kept lists epoch number stored text e h =
    subst (λ o. IsList (text_of o) text) (ap (option_map (view_node kept)) e ∙ sym (view_in kept lists.ended lists.last epoch number)) h

-- the units at its spot are its text
pub text_lent : (kept : Kept) (stored : StoredNode) (spot : Spot) (text : Bor (List ℕ)) → spot_in stored ≡ Some spot → text.now ≡ units_at kept spot
    → IsList (text_of (option_map (view_node kept) (Some stored))) (Some text)
text_lent kept stored spot text e is = subst (λ o. IsList (units_in kept o) (Some text)) (sym e) is
