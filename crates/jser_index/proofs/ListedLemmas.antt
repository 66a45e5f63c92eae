-- Lists that are laid flat: one item more, one end more, and where a list lies.
use denote.Bor.{Bor}
use Rattle.std.proofs.Common.{◌≡◌, ℕ, zero, suc, ◌+◌, ◌-◌, ◌<◌, ◌≤◌, List, [], ◌∷◌, ◌++◌, length, take, drop, slice_get, slice_index_or, Some, None, refl, sym, ◌∙◌, ap, ap₂, subst, arith, length-append, length-drop}
use Rattle.std.proofs.lemmas.List.{take-append-le, drop-append-le, drop-drop}
use Rattle.jser_index.specs.Listed.{ended_of, open_of, AreEnds, start_of, IsList}

ends_within : (from : ℕ) (ends : List ℕ) (last : ℕ) → AreEnds from ends last → from ≤ last
ends_within from [] last h = h
ends_within from (end ∷ ends) last h = let a = ends_within end ends last h.1 in let b = h.0 in omega arith

from_none : {T : Type 0} (ends : List ℕ) (items : List T) → AreEnds 0 ends (length items) → AreEnds 0 ends (0 + length items)
from_none ends items h = let e : length items ≡ 0 + length items = omega arith in subst (AreEnds 0 ends) e h

-- behind the first list
ends_after : {T : Type 0} (from end : ℕ) (ends : List ℕ) (items : List T) → from ≤ end → AreEnds end ends (from + length items)
    → AreEnds end ends (end + length (drop (end - from) items))
ends_after from end ends items le h =
    let within = ends_within end ends (from + length items) h in
    let n = length-drop (end - from) items in
    subst (AreEnds end ends) (omega arith) h

within_items : {T : Type 0} (from end : ℕ) (ends : List ℕ) (items : List T) → from ≤ end → AreEnds end ends (from + length items) → end - from ≤ length items
within_items from end ends items le h = let within = ends_within end ends (from + length items) h in omega arith

-- items more

ended_more : {T : Type 0} (from : ℕ) (ends : List ℕ) (items more : List T) → AreEnds from ends (from + length items)
    → ended_of from ends (items ++ more) ≡ ended_of from ends items
ended_more from [] items more h = refl
ended_more from (end ∷ ends) items more h =
    let le = within_items from end ends items h.0 h.1 in
    ap₂ (λ xs ys. xs ∷ ys) (take-append-le (end - from) items more le)
    (ap (ended_of end ends) (drop-append-le (end - from) items more le)
    ∙ ended_more end ends (drop (end - from) items) more (ends_after from end ends items h.0 h.1))

open_more : {T : Type 0} (from : ℕ) (ends : List ℕ) (items more : List T) → AreEnds from ends (from + length items)
    → open_of from ends (items ++ more) ≡ open_of from ends items ++ more
open_more from [] items more h = refl
open_more from (end ∷ ends) items more h =
    let le = within_items from end ends items h.0 h.1 in
    ap (open_of end ends) (drop-append-le (end - from) items more le)
    ∙ open_more end ends (drop (end - from) items) more (ends_after from end ends items h.0 h.1)

ends_more : (from : ℕ) (ends : List ℕ) (last more : ℕ) → last ≤ more → AreEnds from ends last → AreEnds from ends more
ends_more from [] last more le h = omega arith
ends_more from (end ∷ ends) last more le h = (h.0, ends_more end ends last more le h.1)

pub ended_push : {T : Type 0} (ends : List ℕ) (items more : List T) → AreEnds 0 ends (length items)
    → ended_of 0 ends (items ++ more) ≡ ended_of 0 ends items
ended_push ends items more h = ended_more 0 ends items more (from_none ends items h)

pub open_push : {T : Type 0} (ends : List ℕ) (items more : List T) → AreEnds 0 ends (length items)
    → open_of 0 ends (items ++ more) ≡ open_of 0 ends items ++ more
open_push ends items more h = open_more 0 ends items more (from_none ends items h)

pub ends_push : {T : Type 0} (ends : List ℕ) (items more : List T) → AreEnds 0 ends (length items)
    → AreEnds 0 ends (length (items ++ more))
ends_push ends items more h =
    let n = length-append items more in
    ends_more 0 ends (length items) (length (items ++ more)) (omega arith) h

-- one end more

take_all : {T : Type 0} (n : ℕ) (items : List T) → n ≡ length items → take n items ≡ items
take_all zero [] e = refl
take_all zero (x ∷ items) e = absurd (omega arith)
take_all (suc n) [] e = refl
take_all (suc n) (x ∷ items) e = ap (λ xs. x ∷ xs) (take_all n items (omega arith))

drop_all : {T : Type 0} (n : ℕ) (items : List T) → n ≡ length items → drop n items ≡ []
drop_all zero [] e = refl
drop_all zero (x ∷ items) e = absurd (omega arith)
drop_all (suc n) [] e = refl
drop_all (suc n) (x ∷ items) e = drop_all n items (omega arith)

ended_one : {T : Type 0} (from : ℕ) (ends : List ℕ) (items : List T) (last : ℕ) → last ≡ from + length items → AreEnds from ends last
    → ended_of from (ends ++ (last ∷ [])) items ≡ ended_of from ends items ++ (open_of from ends items ∷ [])
ended_one from [] items last e h = ap (λ xs. xs ∷ []) (take_all (last - from) items (omega arith))
ended_one from (end ∷ ends) items last e h =
    let le = ends_within end ends last h.1 in
    let n = length-drop (end - from) items in
    let b = h.0 in
    ap (λ xs. take (end - from) items ∷ xs) (ended_one end ends (drop (end - from) items) last (omega arith) h.1)

open_one : {T : Type 0} (from : ℕ) (ends : List ℕ) (items : List T) (last : ℕ) → last ≡ from + length items → AreEnds from ends last
    → open_of from (ends ++ (last ∷ [])) items ≡ []
open_one from [] items last e h = drop_all (last - from) items (omega arith)
open_one from (end ∷ ends) items last e h =
    let le = ends_within end ends last h.1 in
    let n = length-drop (end - from) items in
    let b = h.0 in
    open_one end ends (drop (end - from) items) last (omega arith) h.1

ends_one : (from : ℕ) (ends : List ℕ) (last : ℕ) → AreEnds from ends last → AreEnds from (ends ++ (last ∷ [])) last
ends_one from [] last h = (h, omega arith)
ends_one from (end ∷ ends) last h = (h.0, ends_one end ends last h.1)

pub ended_end : {T : Type 0} (ends : List ℕ) (items : List T) → AreEnds 0 ends (length items)
    → ended_of 0 (ends ++ (length items ∷ [])) items ≡ ended_of 0 ends items ++ (open_of 0 ends items ∷ [])
ended_end ends items h = ended_one 0 ends items (length items) (omega arith) h

pub open_end : {T : Type 0} (ends : List ℕ) (items : List T) → AreEnds 0 ends (length items) → open_of 0 (ends ++ (length items ∷ [])) items ≡ []
open_end ends items h = open_one 0 ends items (length items) (omega arith) h

pub ends_end : {T : Type 0} (ends : List ℕ) (items : List T) → AreEnds 0 ends (length items) → AreEnds 0 (ends ++ (length items ∷ [])) (length items)
ends_end ends items h = ends_one 0 ends (length items) h

-- one list more

whole_ends : {T : Type 0} (items more : List T) → length (items ++ more) ≡ length items + length more
whole_ends items more = length-append items more

pub ended_add : {T : Type 0} (ends : List ℕ) (items more : List T) → AreEnds 0 ends (length items)
    → ended_of 0 (ends ++ ((length items + length more) ∷ [])) (items ++ more) ≡ ended_of 0 ends items ++ ((open_of 0 ends items ++ more) ∷ [])
ended_add ends items more h =
    ap (λ n. ended_of 0 (ends ++ (n ∷ [])) (items ++ more)) (sym (whole_ends items more)) ∙ ended_end ends (items ++ more) (ends_push ends items more h)
    ∙ ap₂ (λ xs ys. xs ++ (ys ∷ [])) (ended_push ends items more h) (open_push ends items more h)

pub open_add : {T : Type 0} (ends : List ℕ) (items more : List T) → AreEnds 0 ends (length items)
    → open_of 0 (ends ++ ((length items + length more) ∷ [])) (items ++ more) ≡ []
open_add ends items more h =
    ap (λ n. open_of 0 (ends ++ (n ∷ [])) (items ++ more)) (sym (whole_ends items more)) ∙ open_end ends (items ++ more) (ends_push ends items more h)

pub ends_add : {T : Type 0} (ends : List ℕ) (items more : List T) → AreEnds 0 ends (length items)
    → AreEnds 0 (ends ++ ((length items + length more) ∷ [])) (length (items ++ more))
ends_add ends items more h =
    subst (λ n. AreEnds 0 (ends ++ (n ∷ [])) (length (items ++ more))) (whole_ends items more) (ends_end ends (items ++ more) (ends_push ends items more h))

pub length_ended : {T : Type 0} (from : ℕ) (ends : List ℕ) (items : List T) → length (ended_of from ends items) ≡ length ends
length_ended from [] items = refl
length_ended from (end ∷ ends) items = ap (λ n. suc n) (length_ended end ends (drop (end - from) items))

-- where a list lies

start_after : (from : ℕ) (ends : List ℕ) (last k : ℕ) → AreEnds from ends last → from ≤ start_of from ends k
start_after from [] last zero h = omega arith
start_after from [] last (suc k) h = omega arith
start_after from (end ∷ ends) last zero h = omega arith
start_after from (end ∷ ends) last (suc k) h = let a = start_after end ends last k h.1 in let b = h.0 in omega arith

drops : {T : Type 0} (from end start : ℕ) (items : List T) → from ≤ end → end ≤ start → drop (start - end) (drop (end - from) items) ≡ drop (start - from) items
drops from end start items a b = drop-drop (start - end) (end - from) items ∙ ap (λ n. drop n items) (omega arith)

some_injective : {X : Type 0} {x y : X} → Some x ≡ Some y → x ≡ y
some_injective e = cc

none_some : {X : Type 0} {x : X} → None ≡ Some x → ⊥
none_some e = cc

list_lies : {T : Type 0} (from : ℕ) (ends : List ℕ) (items : List T) (k end : ℕ) → AreEnds from ends (from + length items) → slice_get ends k ≡ Some end
    → slice_get (ended_of from ends items) k ≡ Some (take (end - start_of from ends k) (drop (start_of from ends k - from) items))
list_lies from [] items zero end h e = absurd (none_some e)
list_lies from [] items (suc k) end h e = absurd (none_some e)
list_lies from (first ∷ ends) items zero end h e =
    let same : first ≡ end = some_injective e in
    let none : 0 ≡ from - from = omega arith in
    ap (λ n. Some (take (n - from) items)) same ∙ ap (λ n. Some (take (end - from) (drop n items))) none
list_lies from (first ∷ ends) items (suc k) end h e =
    let a = start_after first ends (from + length items) k h.1 in
    list_lies first ends (drop (first - from) items) k end (ends_after from first ends items h.0 h.1) e
    ∙ ap (λ xs. Some (take (end - start_of first ends k) xs)) (drops from first (start_of first ends k) items h.0 a)

open_lies : {T : Type 0} (from : ℕ) (ends : List ℕ) (items : List T) → AreEnds from ends (from + length items)
    → open_of from ends items ≡ drop (start_of from ends (length ends) - from) items
open_lies from [] items h = let none : 0 ≡ from - from = omega arith in ap (λ n. drop n items) none
open_lies from (end ∷ ends) items h =
    let a = start_after end ends (from + length items) (length ends) h.1 in
    open_lies end ends (drop (end - from) items) (ends_after from end ends items h.0 h.1) ∙ drops from end (start_of end ends (length ends)) items h.0 a

start_after_one : (from : ℕ) (ends : List ℕ) (k : ℕ) → k < length ends → slice_index_or ends k 0 ≡ start_of from ends (suc k)
start_after_one from [] k less = absurd (omega arith)
start_after_one from (end ∷ ends) zero less = refl
start_after_one from (end ∷ ends) (suc k) less = start_after_one end ends k (omega arith)

pub start_is : (ends : List ℕ) (number : ℕ) → (number ≡ 0 → ⊥) → number ≤ length ends → slice_index_or ends (number - 1) 0 ≡ start_of 0 ends number
start_is ends zero some le = absurd (some refl)
start_is ends (suc k) some le =
    let e : suc k - 1 ≡ k = omega arith in ap (λ n. slice_index_or ends n 0) e ∙ start_after_one 0 ends k (omega arith)

pub open_is : {T : Type 0} (ends : List ℕ) (items : List T) → AreEnds 0 ends (length items) → open_of 0 ends items ≡ drop (start_of 0 ends (length ends)) items
open_is ends items h =
    open_lies 0 ends items (from_none ends items h) ∙ (let e : start_of 0 ends (length ends) - 0 ≡ start_of 0 ends (length ends) = omega arith in ap (λ n. drop n items) e)

pub length_open : {T : Type 0} (ends : List ℕ) (items : List T) → AreEnds 0 ends (length items)
    → length items - start_of 0 ends (length ends) ≡ length (open_of 0 ends items)
length_open ends items h =
    sym (ap length (open_is ends items h) ∙ length-drop (start_of 0 ends (length ends)) items)

pub list_is : {T : Type 0} (ends : List ℕ) (items : List T) (k end : ℕ) → AreEnds 0 ends (length items) → slice_get ends k ≡ Some end
    → slice_get (ended_of 0 ends items) k ≡ Some (take (end - start_of 0 ends k) (drop (start_of 0 ends k) items))
list_is ends items k end h e =
    list_lies 0 ends items k end (from_none ends items h) e
    ∙ (let n : start_of 0 ends k - 0 ≡ start_of 0 ends k = omega arith in ap (λ n. Some (take (end - start_of 0 ends k) (drop n items))) n)

-- a list lies within the items

end_within : (from : ℕ) (ends : List ℕ) (last k : ℕ) → AreEnds from ends last → k < length ends
    → (start_of from ends k ≤ slice_index_or ends k 0) × (slice_index_or ends k 0 ≤ last)
end_within from [] last k h less = absurd (omega arith)
end_within from (first ∷ ends) last zero h less = let a = ends_within first ends last h.1 in (h.0, a)
end_within from (first ∷ ends) last (suc k) h less = end_within first ends last k h.1 (omega arith)

start_within : (from : ℕ) (ends : List ℕ) (last k : ℕ) → AreEnds from ends last → start_of from ends k ≤ last
start_within from ends last zero h = ends_within from ends last h
start_within from [] last (suc k) h = h
start_within from (end ∷ ends) last (suc k) h = start_within end ends last k h.1

pub list_begins : (ends : List ℕ) (last k : ℕ) → AreEnds 0 ends last → k < length ends → start_of 0 ends k ≤ slice_index_or ends k 0
list_begins ends last k h less = (end_within 0 ends last k h less).0

pub list_ends : (ends : List ℕ) (last k : ℕ) → AreEnds 0 ends last → k < length ends → slice_index_or ends k 0 ≤ last
list_ends ends last k h less = (end_within 0 ends last k h less).1

pub last_within : (ends : List ℕ) (last : ℕ) → AreEnds 0 ends last → start_of 0 ends (length ends) ≤ last
last_within ends last h = start_within 0 ends last (length ends) h

at_index : (ends : List ℕ) (k : ℕ) → k < length ends → slice_get ends k ≡ Some (slice_index_or ends k 0)
at_index [] k less = absurd (omega arith)
at_index (end ∷ ends) zero less = refl
at_index (end ∷ ends) (suc k) less = at_index ends k (omega arith)

-- it is the part of the items between its two places
pub is_list : {T : Type 0} (ends : List ℕ) (items : List T) (k : ℕ) (part : Bor (List T)) → AreEnds 0 ends (length items) → k < length ends
    → part.now ≡ take (slice_index_or ends k 0 - start_of 0 ends k) (drop (start_of 0 ends k) items)
    → IsList (slice_get (ended_of 0 ends items) k) (Some part)
is_list ends items k part h less e =
    subst (λ l. IsList l (Some part)) (sym (list_is ends items k (slice_index_or ends k 0) h (at_index ends k less))) e

after_all : {A : Type 0} (xs : List A) (k : ℕ) → length xs ≤ k → slice_get xs k ≡ None
after_all [] k le = refl
after_all (x ∷ xs) zero le = absurd (omega arith)
after_all (x ∷ xs) (suc k) le = after_all xs k (omega arith)

pub is_none : {T : Type 0} (ends : List ℕ) (items : List T) (k : ℕ) → length ends ≤ k → IsList (slice_get (ended_of 0 ends items) k) None
is_none ends items k le =
    let n = length_ended 0 ends items in
    subst (λ l. IsList l None) (sym (after_all (ended_of 0 ends items) k (omega arith))) tt
