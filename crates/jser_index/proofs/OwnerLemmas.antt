-- The owners as they are kept.
use Rattle.std.proofs.Common.{◌≡◌, ℕ, zero, suc, ◌≤◌, List, [], ◌∷◌, ◌++◌, length, slice_set, refl, sym, ap, arith}
use Rattle.std.proofs.lemmas.List.{map_push}
use Rattle.jser_printer.specs.declared.owner.OwnerNode.{OwnerNode}
use Rattle.jser_printer.specs.Given.{view_node, view_nodes}

pub view_set : (os : List OwnerNode) (k : ℕ) (node : OwnerNode) → view_nodes (slice_set os k node) ≡ slice_set (view_nodes os) k (view_node node)
view_set [] k node = refl
view_set (o ∷ os) zero node = refl
view_set (o ∷ os) (suc k) node = ap (λ xs. view_node o ∷ xs) (view_set os k node)

set_past : {A : Type 0} (xs : List A) (k : ℕ) (x : A) → length xs ≤ k → slice_set xs k x ≡ xs
set_past [] k x le = refl
set_past (y ∷ xs) zero x le = absurd (omega arith)
set_past (y ∷ xs) (suc k) x le = ap (λ ys. y ∷ ys) (set_past xs k x (omega arith))

pub length_told : (os : List OwnerNode) → length (view_nodes os) ≡ length os
length_told [] = refl
length_told (o ∷ os) = ap (λ n. suc n) (length_told os)

-- there is no owner at that position
pub view_past : (os : List OwnerNode) (k : ℕ) (node : OwnerNode) → length os ≤ k → view_nodes os ≡ slice_set (view_nodes os) k (view_node node)
view_past os k node le = let n = length_told os in sym (set_past (view_nodes os) k (view_node node) (omega arith))

-- one more
pub view_push : (os : List OwnerNode) (node : OwnerNode) → view_nodes (os ++ (node ∷ [])) ≡ view_nodes os ++ (view_node node ∷ [])
view_push os node = map_push view_node os node
