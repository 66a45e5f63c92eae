-- The order of ties: a reason is known by its turn, and the first reason of which a test holds has the earliest turn.
use Rattle.std.proofs.Common.{◌≡◌, ℕ, ◌<◌, ◌≤◌, Bool, true, false, ◌&&◌, ◌||◌, nat_eq, nat_le, if◌then◌else◌, List, [], ◌∷◌, refl, sym, ◌∙◌, ap, arith, Some, leb-true, true≢false, ◌⊎◌, inl, inr}
use Rattle.std.proofs.lemmas.Bool.{eqb-true}
use Rattle.jser_grammar.proofs.Bools.{and_left, and_right}
use Rattle.jser_verdict.specs.Reasons.{Reason, bytes_exceeded, bad_header, bad_tag, exception_tag, reset_inside, bad_text, negative_length, bad_type_code, field_order, bad_flags, null_class, no_such_handle, wrong_kind, open_descriptor, bad_array_name, wrong_class, external_raw, not_serializable, class_rejected, class_unmatched, depth_exceeded, refs_exceeded, array_exceeded, handle_space, truncated, number, ComesNoLater, in_order, first_that, turn, reason_with}
use Rattle.jser_verdict.specs.TokenLaws.{TurnsAreInOrder}

-- a reason is known by its turn
pub reason_of_turn : (r : Reason) → reason_with (turn r) ≡ r
reason_of_turn bytes_exceeded = refl
reason_of_turn bad_header = refl
reason_of_turn bad_tag = refl
reason_of_turn exception_tag = refl
reason_of_turn reset_inside = refl
reason_of_turn bad_text = refl
reason_of_turn negative_length = refl
reason_of_turn bad_type_code = refl
reason_of_turn field_order = refl
reason_of_turn bad_flags = refl
reason_of_turn null_class = refl
reason_of_turn no_such_handle = refl
reason_of_turn wrong_kind = refl
reason_of_turn open_descriptor = refl
reason_of_turn bad_array_name = refl
reason_of_turn wrong_class = refl
reason_of_turn external_raw = refl
reason_of_turn not_serializable = refl
reason_of_turn class_rejected = refl
reason_of_turn class_unmatched = refl
reason_of_turn depth_exceeded = refl
reason_of_turn refs_exceeded = refl
reason_of_turn array_exceeded = refl
reason_of_turn handle_space = refl
reason_of_turn truncated = refl

pub one_turn : (r r' : Reason) → turn r ≡ turn r' → r ≡ r'
one_turn r r' e = sym (reason_of_turn r) ∙ ap reason_with e ∙ reason_of_turn r'

-- BytesExceeded has the first turn, and Truncated the last
is_between : (r : Reason) → (nat_le (turn bytes_exceeded) (turn r) && nat_le (turn r) (turn truncated)) ≡ true
is_between bytes_exceeded = refl
is_between bad_header = refl
is_between bad_tag = refl
is_between exception_tag = refl
is_between reset_inside = refl
is_between bad_text = refl
is_between negative_length = refl
is_between bad_type_code = refl
is_between field_order = refl
is_between bad_flags = refl
is_between null_class = refl
is_between no_such_handle = refl
is_between wrong_kind = refl
is_between open_descriptor = refl
is_between bad_array_name = refl
is_between wrong_class = refl
is_between external_raw = refl
is_between not_serializable = refl
is_between class_rejected = refl
is_between class_unmatched = refl
is_between depth_exceeded = refl
is_between refs_exceeded = refl
is_between array_exceeded = refl
is_between handle_space = refl
is_between truncated = refl

pub turn_least : (r : Reason) → turn bytes_exceeded ≤ turn r
turn_least r = leb-true (turn bytes_exceeded) (turn r) (and_left (nat_le (turn bytes_exceeded) (turn r)) (nat_le (turn r) (turn truncated)) (is_between r))

pub turn_most : (r : Reason) → turn r ≤ turn truncated
turn_most r = leb-true (turn r) (turn truncated) (and_right (nat_le (turn bytes_exceeded) (turn r)) (nat_le (turn r) (turn truncated)) (is_between r))

-- the turn of each reason is its number, save for two
Placed : Reason → Type 0
Placed r = ((number r ≡ turn r) × (turn r ≤ 23)) ⊎ ((r ≡ handle_space) ⊎ (r ≡ truncated))

placed : (r : Reason) → Placed r
unfolding Placed
placed bytes_exceeded = inl (refl, omega arith)
placed bad_header = inl (refl, omega arith)
placed bad_tag = inl (refl, omega arith)
placed exception_tag = inl (refl, omega arith)
placed reset_inside = inl (refl, omega arith)
placed bad_text = inl (refl, omega arith)
placed negative_length = inl (refl, omega arith)
placed bad_type_code = inl (refl, omega arith)
placed field_order = inl (refl, omega arith)
placed bad_flags = inl (refl, omega arith)
placed null_class = inl (refl, omega arith)
placed no_such_handle = inl (refl, omega arith)
placed wrong_kind = inl (refl, omega arith)
placed open_descriptor = inl (refl, omega arith)
placed bad_array_name = inl (refl, omega arith)
placed wrong_class = inl (refl, omega arith)
placed external_raw = inl (refl, omega arith)
placed not_serializable = inl (refl, omega arith)
placed class_rejected = inl (refl, omega arith)
placed class_unmatched = inl (refl, omega arith)
placed depth_exceeded = inl (refl, omega arith)
placed refs_exceeded = inl (refl, omega arith)
placed array_exceeded = inl (refl, omega arith)
placed handle_space = inr (inl refl)
placed truncated = inr (inr refl)

not_truncated : (r : Reason) → turn r ≤ 24 → r ≡ truncated → ⊥
not_truncated r h e = let t : turn r ≡ 25 = ap turn e in omega (arith, h)

in_turn_order : (r o : Reason) → Placed r → Placed o → turn r ≤ turn o → ComesNoLater r o
unfolding Placed
in_turn_order r o p (inr (inr eo)) h = inl eo
in_turn_order r o (inl (er, lr)) (inl (eo, lo)) h = inr (not_truncated r (omega (arith, lr)), omega (arith, er, eo, h))
in_turn_order r o (inl (er, lr)) (inr (inl eo)) h =
    let n : number o ≡ 25 = ap number eo in inr (not_truncated r (omega (arith, lr)), omega (arith, er, lr, n))
in_turn_order r o (inr (inl er)) (inl (eo, lo)) h = let t : turn r ≡ 24 = ap turn er in absurd (omega (arith, h, lo, t))
in_turn_order r o (inr (inl er)) (inr (inl eo)) h =
    let t : turn r ≡ 24 = ap turn er in
    let n : number r ≡ 25 = ap number er in
    let m : number o ≡ 25 = ap number eo in
    inr (not_truncated r (omega (arith, t)), omega (arith, n, m))
in_turn_order r o (inr (inr er)) (inl (eo, lo)) h = let t : turn r ≡ 25 = ap turn er in absurd (omega (arith, h, lo, t))
in_turn_order r o (inr (inr er)) (inr (inl eo)) h =
    let t : turn r ≡ 25 = ap turn er in let u : turn o ≡ 24 = ap turn eo in absurd (omega (arith, h, t, u))

turn_of_order : (r o : Reason) → Placed r → Placed o → ComesNoLater r o → turn r ≤ turn o
unfolding Placed
turn_of_order r o p q (inl eo) = let t : turn o ≡ 25 = ap turn eo in let k = turn_most r in omega (arith, t, k)
turn_of_order r o (inr (inr er)) q (inr (nt, h)) = absurd (nt er)
turn_of_order r o p (inr (inr eo)) (inr (nt, h)) = let t : turn o ≡ 25 = ap turn eo in let k = turn_most r in omega (arith, t, k)
turn_of_order r o (inl (er, lr)) (inl (eo, lo)) (inr (nt, h)) = omega (arith, er, eo, h)
turn_of_order r o (inl (er, lr)) (inr (inl eo)) (inr (nt, h)) = let t : turn o ≡ 24 = ap turn eo in omega (arith, lr, t)
turn_of_order r o (inr (inl er)) (inl (eo, lo)) (inr (nt, h)) =
    let n : number r ≡ 25 = ap number er in absurd (omega (arith, n, eo, lo, h))
turn_of_order r o (inr (inl er)) (inr (inl eo)) (inr (nt, h)) =
    let t : turn r ≡ 24 = ap turn er in let u : turn o ≡ 24 = ap turn eo in omega (arith, t, u)

pub turns_are_in_order : TurnsAreInOrder
turns_are_in_order r o = (in_turn_order r o (placed r) (placed o), turn_of_order r o (placed r) (placed o))

-- no earlier end, or no later in the order of ties at the same end
pub by_turns : (end end' : ℕ) (r o : Reason) → (end < end') ⊎ ((end ≡ end') × (turn r ≤ turn o))
    → (end < end') ⊎ ((end ≡ end') × ComesNoLater r o)
by_turns end end' r o (inl h) = inl h
by_turns end end' r o (inr (e, h)) = inr (e, (turns_are_in_order r o).0 h)

pub to_turns : (end end' : ℕ) (r o : Reason) → (end < end') ⊎ ((end ≡ end') × ComesNoLater r o)
    → (end < end') ⊎ ((end ≡ end') × (turn r ≤ turn o))
to_turns end end' r o (inl h) = inl h
to_turns end end' r o (inr (e, h)) = inr (e, (turns_are_in_order r o).1 h)

-- the test holds of the first that is told
pub first_holds : (h : Reason → Bool) (rs : List Reason) (r : Reason) → first_that h rs ≡ Some r → h r ≡ true
first_holds h [] r e = absurd (cc)
first_holds h (x ∷ xs) r e = go (h x) refl e (first_holds h xs r)
  where
    go : (b : Bool) → h x ≡ b → (if b then Some x else first_that h xs) ≡ Some r → (first_that h xs ≡ Some r → h r ≡ true) → h r ≡ true
    go true eb k ih = let q : x ≡ r = cc in rw (← q) eb
    go false eb k ih = ih k

-- the reason stands in the list, and none that stands before it has a later turn
abbrev stands : List Reason → Reason → Bool
stands [] r = false
stands (x ∷ xs) r = nat_eq (turn x) (turn r) || (nat_le (turn x) (turn r) && stands xs r)

each_stands : (r : Reason) → stands in_order r ≡ true
each_stands bytes_exceeded = refl
each_stands bad_header = refl
each_stands bad_tag = refl
each_stands exception_tag = refl
each_stands reset_inside = refl
each_stands bad_text = refl
each_stands negative_length = refl
each_stands bad_type_code = refl
each_stands field_order = refl
each_stands bad_flags = refl
each_stands null_class = refl
each_stands no_such_handle = refl
each_stands wrong_kind = refl
each_stands open_descriptor = refl
each_stands bad_array_name = refl
each_stands wrong_class = refl
each_stands external_raw = refl
each_stands not_serializable = refl
each_stands class_rejected = refl
each_stands class_unmatched = refl
each_stands depth_exceeded = refl
each_stands refs_exceeded = refl
each_stands array_exceeded = refl
each_stands handle_space = refl
each_stands truncated = refl

abbrev pub Found : (Reason → Bool) → List Reason → Reason → Type 0
Found h rs r = (first : Reason) × (first_that h rs ≡ Some first) × (turn first ≤ turn r)

found_in : (h : Reason → Bool) (rs : List Reason) (r : Reason) → stands rs r ≡ true → h r ≡ true → Found h rs r
found_in h [] r s e = absurd (true≢false (sym s))
found_in h (x ∷ xs) r s e = go (nat_eq (turn x) (turn r)) refl s (λ k. found_in h xs r k e)
  where
    later : (b : Bool) → h x ≡ b → turn x ≤ turn r → Found h xs r → Found h (x ∷ xs) r
    later true eb le f = (x, rw eb refl, le)
    later false eb le f = (f.0, rw eb f.1, f.2)

    go : (b : Bool) → nat_eq (turn x) (turn r) ≡ b → (b || (nat_le (turn x) (turn r) && stands xs r)) ≡ true
        → (stands xs r ≡ true → Found h xs r) → Found h (x ∷ xs) r
    go true eb s ih = let q : x ≡ r = one_turn x r (eqb-true (turn x) (turn r) eb) in (x, rw (q, e) refl, rw q (omega arith))
    go false eb s ih =
        later (h x) refl (leb-true (turn x) (turn r) (and_left (nat_le (turn x) (turn r)) (stands xs r) s))
        (ih (and_right (nat_le (turn x) (turn r)) (stands xs r) s))

pub found_first : (h : Reason → Bool) (r : Reason) → h r ≡ true → Found h in_order r
found_first h r e = found_in h in_order r (each_stands r) e
