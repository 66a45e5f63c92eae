-- Lists of layers: their fronts, and one more layer at the end.
use Rattle.std.proofs.Common.{◌≡◌, ◌+◌, Bool, true, false, ◌&&◌, cond, List, [], ◌∷◌, ◌++◌, length, drop, count_by, Some, refl, ap, sym, ◌∙◌, subst, arith, append_assoc, append-nil}
use Rattle.std.proofs.lemmas.List.{drop_at}
use Rattle.std.proofs.lemmas.List.Sums.{sum_by-append}
use Rattle.jser_table.specs.declared.layer.Layer.{Layer}
use Rattle.jser_table.specs.Chains.{own_layer, all_serial, is_serial, is_filled, IsFront}

-- fronts

pub IsFront-append : (xs ys : List Layer) → IsFront xs (xs ++ ys)
IsFront-append xs ys = record { rest = ap (λ rest. xs ++ rest) (sym (drop_at xs ys (length xs) refl)) }

pub IsFront-from : (xs ys whole : List Layer) → whole ≡ xs ++ ys → IsFront xs whole
IsFront-from xs ys whole e = subst (IsFront xs) (sym e) (IsFront-append xs ys)

pub IsFront-refl : (xs : List Layer) → IsFront xs xs
IsFront-refl xs = IsFront-from xs [] xs (rw append-nil refl)

pub IsFront-trans : (xs ys zs : List Layer) → IsFront xs ys → IsFront ys zs → IsFront xs zs
IsFront-trans xs ys zs f g =
    IsFront-from xs (drop (length xs) ys ++ drop (length ys) zs) zs
    (g.rest ∙ ap (λ front. front ++ drop (length ys) zs) f.rest ∙ append_assoc xs (drop (length xs) ys) (drop (length ys) zs))

-- one more layer at the end of a chain

pub count_by_push : (chain : List Layer) (layer : Layer) → count_by is_filled (chain ++ layer ∷ []) ≡ count_by is_filled chain + cond (is_filled layer) 1 0
count_by_push chain layer = sum_by-append (λ l. cond (is_filled l) 1 0) chain (layer ∷ []) ∙ omega arith

pub and_true : (b : Bool) → (b && true) ≡ (true && b)
and_true true = refl
and_true false = refl

and_assoc_test : (a b c : Bool) → (a && (b && c)) ≡ (a && b && c)
and_assoc_test true b c = refl
and_assoc_test false b c = refl

pub all_serial_push : (chain : List Layer) (layer : Layer) → all_serial (chain ++ layer ∷ []) ≡ (all_serial chain && is_serial layer)
all_serial_push [] layer = and_true (is_serial layer)
all_serial_push (first ∷ chain) layer = ap (λ rest. is_serial first && rest) (all_serial_push chain layer) ∙ and_assoc_test (is_serial first) (all_serial chain) (is_serial layer)

-- own layers

pub own_layer_push : (chain : List Layer) (layer : Layer) → own_layer (chain ++ layer ∷ []) ≡ Some layer
own_layer_push [] layer = refl
own_layer_push (first ∷ []) layer = refl
own_layer_push (first ∷ second ∷ chain) layer = own_layer_push (second ∷ chain) layer
