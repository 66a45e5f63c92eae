-- The first place in a list that passes a test: one more item, and the item at that place.
use Rattle.std.proofs.Common.{◌≡◌, ℕ, ◌+◌, ◌<◌, ◌≤◌, Bool, true, false, not, cond, ltb, List, [], ◌∷◌, ◌++◌, length, position, Option, Some, None, refl, ◌∙◌, arith}
use Rattle.std.specs.List.{position_or_len}
use Rattle.std.proofs.lemmas.Bool.{lt-ltb, le-ltb, ltb-true, ltb-false, ne_eqb, eq-eqb}
use Rattle.std.proofs.lemmas.List.{length_push}
use Rattle.std.proofs.lemmas.List.Sums.{prefix_len-le-length}
use Rattle.std.proofs.lemmas.List.Folds.{position_or_len_push}
use Rattle.jser_filter.specs.Places.{or_else}
use Rattle.jser_filter.specs.Trie.{least}

position_step : {X : Type 0} (test : X → Bool) (items : List X) (item : X) (found passes : Bool) → ltb (position_or_len test items) (length items) ≡ found → test item ≡ passes → position test (items ++ item ∷ []) ≡ or_else (cond found (Some (position_or_len test items)) None) (cond passes (Some (length items)) None)
position_step test items item true passes is says =
    let place : ℕ = position_or_len test items in
    let inside : place < length items = ltb-true place (length items) is in
    let same : position_or_len test (items ++ item ∷ []) ≡ place =
    position_or_len_push test items item ∙ rw (ne_eqb place (length items) (λ e. omega arith)) refl
    in
    rw (same, length_push items item, lt-ltb place (length items + 1) (omega arith)) refl
position_step test items item false true is says =
    let place : ℕ = position_or_len test items in
    let past : length items ≤ place = ltb-false place (length items) is in
    let end : place ≡ length items = omega (arith, prefix_len-le-length (λ p. not (test p)) items) in
    let here : position_or_len test (items ++ item ∷ []) ≡ length items =
    position_or_len_push test items item ∙ rw (eq-eqb place (length items) end, says) (omega arith)
    in
    rw (here, length_push items item, lt-ltb (length items) (length items + 1) (omega arith)) refl
position_step test items item false false is says =
    let place : ℕ = position_or_len test items in
    let past : length items ≤ place = ltb-false place (length items) is in
    let end : place ≡ length items = omega (arith, prefix_len-le-length (λ p. not (test p)) items) in
    let none : position_or_len test (items ++ item ∷ []) ≡ length items + 1 =
    position_or_len_push test items item ∙ rw (eq-eqb place (length items) end, says) (omega arith)
    in
    rw (none, length_push items item, le-ltb (length items + 1) (length items + 1) (omega arith)) refl

pub position-push : {X : Type 0} (test : X → Bool) (items : List X) (item : X) → position test (items ++ item ∷ []) ≡ or_else (position test items) (cond (test item) (Some (length items)) None)
position-push test items item = position_step test items item (ltb (position_or_len test items) (length items)) (test item) refl refl

pub or_cond : (test : Bool) (place : Option ℕ) (last : ℕ) → cond test (or_else place (Some last)) place ≡ or_else place (cond test (Some last) None)
or_cond true place last = refl
or_cond false None last = refl
or_cond false (Some place) last = refl

-- the last place is never the lesser
last_least : (passes : Bool) (place last : ℕ) (inside : Bool) → ltb place last ≡ inside → or_else (cond inside (Some place) None) (cond passes (Some last) None) ≡ cond passes (least (cond inside (Some place) None) (Some last)) (cond inside (Some place) None)
last_least true place last true is =
    let before : place < last = ltb-true place last is in
    rw (le-ltb last place (omega arith)) refl
last_least false place last true is = refl
last_least true place last false is = refl
last_least false place last false is = refl

pub position-push_least : {X : Type 0} (test : X → Bool) (items : List X) (item : X) → position test (items ++ item ∷ []) ≡ cond (test item) (least (position test items) (Some (length items))) (position test items)
position-push_least test items item =
    position-push test items item ∙ last_least (test item) (position_or_len test items) (length items) (ltb (position_or_len test items) (length items)) refl
