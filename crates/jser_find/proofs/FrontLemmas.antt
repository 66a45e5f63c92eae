-- The front of the bytes that a text spells.
use Rattle.std.proofs.Common.{◌≡◌, ◌≢◌, ℕ, zero, suc, ◌+◌, ◌-◌, ◌<◌, ◌≤◌, List, [], ◌∷◌, ◌++◌, length, take, drop, get_or, refl, sym, ap, subst, ◌∙◌, arith, append_assoc, append-nil, add-zero, Some, None}
use Rattle.jser_find.specs.declared.spot.Spot.{Spot}
use Rattle.jser_find.specs.declared.group.Group.{Group}
use Rattle.jser_find.specs.declared.spelled.Given.{Given}
use Rattle.jser_find.specs.declared.spelled.Reading.{Reading}
use Rattle.jser_find.specs.Spelled.{GivesGroup, GivesNext, IsIn, bytes_from, place_until, until}

-- these bytes, and of what is left so many, are so many of all
pub record HasFront (text : List ℕ) (from : Reading) (count : ℕ) (bytes : List ℕ) (now : Reading) (left : ℕ) : Type 0 where
  pub in_text : IsIn text now
  pub front : take count (bytes_from text from) ≡ bytes ++ take left (bytes_from text now)

pub front_none : (text : List ℕ) (from : Reading) (count : ℕ) → IsIn text from → HasFront text from count [] from count
front_none text from count is = record { in_text = is; front = refl }

take_one : (left byte : ℕ) (xs : List ℕ) → 0 < left → take left (byte ∷ xs) ≡ byte ∷ take (left - 1) xs
take_one zero byte xs some = absurd (omega (arith, some))
take_one (suc left) byte xs some = let e : left ≡ suc left - 1 = omega arith in ap (λ n. byte ∷ take n xs) e

pub front_more : (text : List ℕ) (from now : Reading) (count left : ℕ) (bytes : List ℕ) (given : Given) → 0 < left → GivesNext text now (Some given)
    → HasFront text from count bytes now left → HasFront text from count (bytes ++ (given.byte ∷ [])) given.then (left - 1)
front_more text from now count left bytes given some gives h = record {
  in_text = gives.in_text;
  front = h.front ∙ ap (λ xs. bytes ++ take left xs) gives.bytes ∙ ap (λ xs. bytes ++ xs) (take_one left given.byte (bytes_from text given.then) some)
      ∙ sym (append_assoc bytes (given.byte ∷ []) (take (left - 1) (bytes_from text given.then)));
}

pub front_group : (text : List ℕ) (from now : Reading) (count left : ℕ) (bytes : List ℕ) (group : Group) → 3 ≤ left → GivesGroup text now group
    → HasFront text from count bytes now left → HasFront text from count (bytes ++ (group.first ∷ group.second ∷ group.third ∷ [])) group.then (left - 3)
front_group text from now count left bytes group some g h =
    let one = front_more text from now count left bytes (record { byte = group.first; then = g.second_from }) (omega (arith, some)) g.first h in
    let two = front_more text from g.second_from count (left - 1) (bytes ++ (group.first ∷ [])) (record { byte = group.second; then = g.third_from }) (omega (arith, some)) g.second one in
    let all = front_more text from g.third_from count (left - 1 - 1) ((bytes ++ (group.first ∷ [])) ++ (group.second ∷ [])) (record { byte = group.third; then = group.then })
    (omega (arith, some)) g.third two in
    let less : left - 1 - 1 - 1 ≡ left - 3 = omega arith in
    subst (λ n. HasFront text from count (bytes ++ (group.first ∷ group.second ∷ group.third ∷ [])) group.then n) less
    (subst (λ xs. HasFront text from count xs group.then (left - 1 - 1 - 1))
    (append_assoc (bytes ++ (group.first ∷ [])) (group.second ∷ []) (group.third ∷ []) ∙ append_assoc bytes (group.first ∷ []) (group.second ∷ group.third ∷ [])) all)

take_nothing : (left : ℕ) → take {A = ℕ} left [] ≡ []
take_nothing zero = refl
take_nothing (suc left) = refl

pub front_over : (text : List ℕ) (from now : Reading) (count left : ℕ) (bytes : List ℕ) → GivesNext text now None → HasFront text from count bytes now left
    → bytes ≡ take count (bytes_from text from)
front_over text from now count left bytes gives h =
    sym (h.front ∙ ap (λ xs. bytes ++ take left xs) gives ∙ ap (λ xs. bytes ++ xs) (take_nothing left) ∙ append-nil bytes)

pub front_full : (text : List ℕ) (from now : Reading) (count left : ℕ) (bytes : List ℕ) → left ≡ 0 → HasFront text from count bytes now left
    → bytes ≡ take count (bytes_from text from)
front_full text from now count left bytes none h = sym (h.front ∙ ap (λ n. bytes ++ take n (bytes_from text now)) none ∙ append-nil bytes)

-- ---- whether they begin with some

-- all begin with the needle exactly where what is left begins with what is left of it
pub record BeginsAs (text : List ℕ) (from : Reading) (needle : List ℕ) (now : Reading) (rest : List ℕ) : Type 0 where
  pub in_text : IsIn text now
  pub there : take (length rest) (bytes_from text now) ≡ rest → take (length needle) (bytes_from text from) ≡ needle
  pub back : take (length needle) (bytes_from text from) ≡ needle → take (length rest) (bytes_from text now) ≡ rest

pub begins_all : (text : List ℕ) (from : Reading) (needle : List ℕ) → IsIn text from → BeginsAs text from needle from needle
begins_all text from needle is = record { in_text = is; there = λ e. e; back = λ e. e }

pub begins_more : (text : List ℕ) (from now : Reading) (needle after : List ℕ) (first : ℕ) (given : Given) → GivesNext text now (Some given) → given.byte ≡ first
    → BeginsAs text from needle now (first ∷ after) → BeginsAs text from needle given.then after
begins_more text from now needle after first given gives same h = record {
  in_text = gives.in_text;
  there = λ e. h.there (ap (take (suc (length after))) gives.bytes ∙ ap (λ b. b ∷ take (length after) (bytes_from text given.then)) same ∙ ap (λ xs. first ∷ xs) e);
  back = λ e. ap (drop 1) (sym (ap (take (suc (length after))) gives.bytes) ∙ h.back e);
}

pub begins_other : (text : List ℕ) (from now : Reading) (needle after : List ℕ) (first : ℕ) (given : Given) → GivesNext text now (Some given) → given.byte ≢ first
    → BeginsAs text from needle now (first ∷ after) → take (length needle) (bytes_from text from) ≢ needle
begins_other text from now needle after first given gives other h = λ e.
    other (ap (λ xs. get_or xs 0 0) (sym (ap (take (suc (length after))) gives.bytes) ∙ h.back e))

pub begins_none : (text : List ℕ) (from now : Reading) (needle after : List ℕ) (first : ℕ) → GivesNext text now None
    → BeginsAs text from needle now (first ∷ after) → take (length needle) (bytes_from text from) ≢ needle
begins_none text from now needle after first gives h = λ e.
    let x : length {A = ℕ} [] ≡ length (first ∷ after) = ap (λ xs. length xs) (sym (ap (take (suc (length after))) gives) ∙ h.back e) in
    absurd (omega (arith, x))

-- ---- the place behind some of them

-- behind what was read the bytes that are left end where those of all do, and there are so many
pub record HasPlaces (text : List ℕ) (from : Reading) (count : ℕ) (now : Reading) (left : ℕ) : Type 0 where
  pub in_text : IsIn text now
  pub enough : left ≤ length (bytes_from text now)
  pub places : place_until text from count ≡ place_until text now left

pub places_none : (text : List ℕ) (from : Reading) (count : ℕ) → IsIn text from → count ≤ length (bytes_from text from) → HasPlaces text from count from count
places_none text from count is enough = record { in_text = is; enough = enough; places = refl }

suc_of : (left : ℕ) → 0 < left → left ≡ suc (left - 1)
suc_of left some = omega arith

pub places_more : (text : List ℕ) (from now : Reading) (count left : ℕ) (given : Given) → 0 < left → GivesNext text now (Some given)
    → HasPlaces text from count now left → HasPlaces text from count given.then (left - 1)
places_more text from now count left given some gives h =
    let e = h.enough in
    let l = ap length gives.bytes in
    record {
      in_text = gives.in_text;
      enough = omega arith;
      places = h.places ∙ ap (place_until text now) (suc_of left some) ∙ gives.places (left - 1);
    }

pub places_group : (text : List ℕ) (from now : Reading) (count left : ℕ) (group : Group) → 3 ≤ left → GivesGroup text now group
    → HasPlaces text from count now left → HasPlaces text from count group.then (left - 3)
places_group text from now count left group some g h =
    let one = places_more text from now count left (record { byte = group.first; then = g.second_from }) (omega (arith, some)) g.first h in
    let two = places_more text from g.second_from count (left - 1) (record { byte = group.second; then = g.third_from }) (omega (arith, some)) g.second one in
    let all = places_more text from g.third_from count (left - 1 - 1) (record { byte = group.third; then = group.then }) (omega (arith, some)) g.third two in
    let less : left - 1 - 1 - 1 ≡ left - 3 = omega arith in
    subst (λ n. HasPlaces text from count group.then n) less all

until_none : (spot : Spot) (text : List ℕ) → until spot text 0 ≡ 0
unfolding until
until_none spot [] = refl
until_none spot (c ∷ text) = refl

pub places_all : (text : List ℕ) (from now : Reading) (count left : ℕ) → left ≡ 0 → HasPlaces text from count now left → now.at ≡ place_until text from count
places_all text from now count left none h =
    sym (h.places ∙ ap (place_until text now) none ∙ ap (λ n. now.at + n) (until_none now.spot (drop now.at text)) ∙ add-zero now.at)

pub places_over : (text : List ℕ) (from now : Reading) (count left : ℕ) → 0 < left → GivesNext text now None → HasPlaces text from count now left
    → now.at ≡ place_until text from count
places_over text from now count left some gives h =
    let e = h.enough in
    let l = ap length gives in
    absurd (omega (arith, e, l, some))
