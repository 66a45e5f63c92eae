-- Walks up a chain: what the class at the end of a walk says of the chain where it began.
use Rattle.std.proofs.Common.{◌≡◌, ℕ, suc, ◌+◌, ◌-◌, ◌<◌, ◌≤◌, Bool, true, false, cond, List, [], ◌∷◌, ◌++◌, length, take, drop, count_by, slice_get, position, Some, None, option_map, refl, ap, sym, ◌∙◌, inl, inr, arith, append_assoc, length-append}
use Rattle.std.specs.List.{position_or_len}
use Rattle.std.proofs.lemmas.Bool.{cases_lt, lt-ltb, le-ltb}
use Rattle.std.proofs.lemmas.Option.{slice_get-get_or}
use Rattle.std.proofs.lemmas.List.{get_or_at, take_at, length_push, take-take, take-append-le, drop-append-le, take-append-drop, length-drop, drop_all}
use Rattle.std.proofs.lemmas.List.Sums.{sum_by-append, sum_by-cons}
use Rattle.jser_table.specs.declared.layer.Layer.{Layer}
use Rattle.jser_table.specs.declared.descriptor.Descriptor.{Descriptor}
use Rattle.jser_table.specs.declared.descriptor.Counted.TheVariants as counted
use Rattle.jser_table.specs.Chains.{is_filled, next_filled, chain_in, IsFront}
use Rattle.jser_table.specs.Descriptors.{chain_above, front_of, IsTold, IsHighest}

count_by-append : (p : Layer → Bool) (xs ys : List Layer) → count_by p (xs ++ ys) ≡ count_by p xs + count_by p ys
count_by-append p xs ys = sum_by-append (λ x. cond (p x) 1 0) xs ys

count_by-cons : (p : Layer → Bool) (x : Layer) (xs : List Layer) → count_by p (x ∷ xs) ≡ cond (p x) 1 0 + count_by p xs
count_by-cons p x xs = sum_by-cons (λ y. cond (p y) 1 0) x xs

-- a test that adds nothing to a count fails
nothing_added : (b : Bool) (n : ℕ) → cond b 1 0 + n ≡ 0 → (b ≡ false) × (n ≡ 0)
nothing_added true n none = absurd (omega arith)
nothing_added false n none = (refl, omega arith)

-- a test that adds something holds
pub something_added : (b : Bool) (m n : ℕ) → m ≤ n → n < m + cond b 1 0 → b ≡ true
something_added true m n low high = refl
something_added false m n low high = absurd (omega arith)

-- the first place that passes

position_or_len-at : (p : Layer → Bool) (xs : List Layer) (y : Layer) (ys : List Layer) → count_by p xs ≡ 0 → p y ≡ true → position_or_len p (xs ++ y ∷ ys) ≡ length xs
position_or_len-at p [] y ys none here = rw here refl
position_or_len-at p (x ∷ xs) y ys none here =
    let nothing = nothing_added (p x) (count_by p xs) (sym (count_by-cons p x xs) ∙ none) in
    rw (nothing.0, position_or_len-at p xs y ys nothing.1 here) (omega arith)

position_or_len-none : (p : Layer → Bool) (xs : List Layer) → count_by p xs ≡ 0 → position_or_len p xs ≡ length xs
position_or_len-none p [] none = refl
position_or_len-none p (x ∷ xs) none =
    let nothing = nothing_added (p x) (count_by p xs) (sym (count_by-cons p x xs) ∙ none) in
    rw (nothing.0, position_or_len-none p xs nothing.1) (omega arith)

position-at : (p : Layer → Bool) (xs : List Layer) (y : Layer) (ys : List Layer) → count_by p xs ≡ 0 → p y ≡ true → position p (xs ++ y ∷ ys) ≡ Some (length xs)
position-at p xs y ys none here =
    rw (position_or_len-at p xs y ys none here, length-append xs (y ∷ ys), lt-ltb (length xs) (length xs + suc (length ys)) (omega arith)) refl

position-none : (p : Layer → Bool) (xs : List Layer) → count_by p xs ≡ 0 → position p xs ≡ None
position-none p xs none = rw (position_or_len-none p xs none, le-ltb (length xs) (length xs) (omega arith)) refl

-- the layer at the end of a walk

slice_get_at : (xs : List Layer) (y : Layer) (ys : List Layer) (k : ℕ) → length xs ≡ k → slice_get (xs ++ y ∷ ys) k ≡ Some y
slice_get_at xs y ys k is =
    let inside : k < length (xs ++ y ∷ ys) = omega (arith, length-append xs (y ∷ ys)) in
    slice_get-get_or (xs ++ y ∷ ys) k y inside ∙ ap Some (get_or_at xs y ys y k is)

-- `front` is made of the layers above one layer, and that layer
pub record EndsIn (front above : List Layer) (layer : Layer) : Type 0 where
  pub is : front ≡ above ++ layer ∷ []

pub front_of-EndsIn : (front above : List Layer) (layer : Layer) → EndsIn front above layer → front_of front ≡ above
front_of-EndsIn front above layer ends =
    let long : length front ≡ length above + 1 = ap length ends.is ∙ length_push above layer in
    let short : length front - 1 ≡ length above = omega arith in
    rw short (ap (λ chain. take (length above) chain) ends.is ∙ take_at above (layer ∷ []) (length above) refl)

split_at : (whole front above : List Layer) (layer : Layer) → IsFront front whole → EndsIn front above layer → whole ≡ above ++ layer ∷ drop (length front) whole
split_at whole front above layer is_front ends =
    is_front.rest ∙ ap (λ f. f ++ drop (length front) whole) ends.is ∙ append_assoc above (layer ∷ []) (drop (length front) whole)

above_length : (k : ℕ) (whole front above : List Layer) (layer : Layer) → IsHighest counted.Layers k whole front → EndsIn front above layer → length above ≡ k
above_length k whole front above layer highest ends =
    let least : length (front_of front) ≤ k = highest.least in
    let long : length front ≡ length above + 1 = ap length ends.is ∙ length_push above layer in
    let over : k < length front = highest.over in
    omega (arith, ap length (front_of-EndsIn front above layer ends))

-- the class with as many superclasses has the layer at that index
pub layer_found : (chains : List (List Layer)) (place k : ℕ) (d : Descriptor) (whole : List Layer) → IsTold chains place d → IsHighest counted.Layers k whole (chain_in chains place) → slice_get whole k ≡ Some d.layer
layer_found chains place k d whole told highest =
    let front : List Layer = chain_in chains place in
    let above : List Layer = chain_above chains d.links in
    let ends : EndsIn front above d.layer = record { is = told.own } in
    let split = split_at whole front above d.layer highest.is_front ends in
    rw split (slice_get_at above d.layer (drop (length front) whole) k (above_length k whole front above d.layer highest ends))

-- and its count is that of the layers up to there
pub count_before : (chains : List (List Layer)) (place k : ℕ) (d : Descriptor) (whole : List Layer) → IsTold chains place d → IsHighest counted.Layers k whole (chain_in chains place) → d.filled ≡ count_by is_filled (take (k + 1) whole)
count_before chains place k d whole told highest =
    let front : List Layer = chain_in chains place in
    let above : List Layer = chain_above chains d.links in
    let ends : EndsIn front above d.layer = record { is = told.own } in
    let long : length front ≡ k + 1 = ap length told.own ∙ length_push above d.layer ∙ ap (λ n. n + 1) (above_length k whole front above d.layer highest ends) in
    let same : take (k + 1) whole ≡ front =
    ap (λ chain. take (k + 1) chain) highest.is_front.rest ∙ take_at front (drop (length front) whole) (k + 1) long
    in
    told.known.filled ∙ sym (ap (count_by is_filled) same)

-- the next filled layer

count_drop : (whole : List Layer) (k : ℕ) → count_by is_filled whole ≡ count_by is_filled (take k whole) + count_by is_filled (drop k whole)
count_drop whole k = ap (count_by is_filled) (sym (take-append-drop k whole)) ∙ count_by-append is_filled (take k whole) (drop k whole)

pub none_filled : (whole : List Layer) (k before : ℕ) → before ≡ count_by is_filled (take k whole) → count_by is_filled whole ≤ before → None ≡ next_filled whole k
none_filled whole k before is few =
    let none : count_by is_filled (drop k whole) ≡ 0 = omega (arith, count_drop whole k) in
    rw (position-none is_filled (drop k whole) none) refl

pub past_filled : (whole : List Layer) (k : ℕ) → length whole ≤ k → None ≡ next_filled whole k
past_filled whole k past = rw (drop_all k whole past) refl

count_le : (chain : List Layer) (n k : ℕ) → n ≤ k → count_by is_filled (take n chain) ≤ count_by is_filled (take k chain)
count_le chain n k within =
    omega (arith, count_drop (take k chain) n, ap (count_by is_filled) (take-take n k chain within))

-- a front that has a count that the first k layers have not is longer than k
not_before : (above : List Layer) (layer : Layer) (rest : List Layer) (k before : ℕ) → before ≡ count_by is_filled (take k (above ++ layer ∷ rest)) → before < count_by is_filled (above ++ layer ∷ []) → k ≤ length above
not_before above layer rest k before is over =
    let n : ℕ = length above + 1 in
    let front : take n (above ++ layer ∷ rest) ≡ above ++ layer ∷ [] =
    ap (λ chain. take n chain) (sym (append_assoc above (layer ∷ []) rest)) ∙ take_at (above ++ layer ∷ []) rest n (length_push above layer)
    in
    elim (cases_lt (length above) k) [
      | inl longer ↦ absurd (omega (arith, count_le (above ++ layer ∷ rest) n k (omega arith), ap (count_by is_filled) front))
      | inr within ↦ within
    ]

pub filled_found : (chains : List (List Layer)) (place k before : ℕ) (d : Descriptor) (whole : List Layer) → IsTold chains place d → before ≡ count_by is_filled (take k whole) → IsHighest counted.Filled before whole (chain_in chains place) → Some (d.layers - 1) ≡ next_filled whole k
filled_found chains place k before d whole told is highest =
    let front : List Layer = chain_in chains place in
    let above : List Layer = chain_above chains d.links in
    let rest : List Layer = drop (length front) whole in
    let ends : EndsIn front above d.layer = record { is = told.own } in
    let split : whole ≡ above ++ d.layer ∷ rest = split_at whole front above d.layer highest.is_front ends in
    let is_before : before ≡ count_by is_filled (take k (above ++ d.layer ∷ rest)) = is ∙ ap (λ chain. count_by is_filled (take k chain)) split in
    let over : before < count_by is_filled (above ++ d.layer ∷ []) = omega (arith, highest.over, ap (count_by is_filled) told.own) in
    let within : k ≤ length above = not_before above d.layer rest k before is_before over in
    let least : count_by is_filled above ≤ before = omega (arith, highest.least, ap (count_by is_filled) (front_of-EndsIn front above d.layer ends)) in
    let same : before ≡ count_by is_filled (take k above) = is_before ∙ ap (count_by is_filled) (take-append-le k above (d.layer ∷ rest) within) in
    let none : count_by is_filled (drop k above) ≡ 0 = omega (arith, count_drop above k) in
    let pushed : count_by is_filled (above ++ d.layer ∷ []) ≡ count_by is_filled above + (cond (is_filled d.layer) 1 0 + 0) =
    count_by-append is_filled above (d.layer ∷ []) ∙ ap (λ n. count_by is_filled above + n) (count_by-cons is_filled d.layer [])
    in
    let here : is_filled d.layer ≡ true = something_added (is_filled d.layer) (count_by is_filled above) before least (omega arith) in
    let long : d.layers ≡ length above + 1 = told.known.layers ∙ ap length told.own ∙ length_push above d.layer in
    let found : position is_filled (drop k whole) ≡ Some (length (drop k above)) =
    ap (λ chain. position is_filled (drop k chain)) split
    ∙ ap (position is_filled) (drop-append-le k above (d.layer ∷ rest) within)
    ∙ position-at is_filled (drop k above) d.layer rest none here
    in
    let index : d.layers - 1 ≡ k + length (drop k above) = omega (arith, length-drop k above) in
    ap Some index ∙ sym (ap (option_map (λ j. k + j)) found)
