-- How much white space may still come in a text: no more than at first, and one for each character.
use Rattle.std.proofs.Common.{◌≡◌, ℕ, zero, suc, ◌+◌, ◌-◌, ◌≤◌, ◌==◌, length, Bool, true, false, if◌then◌else◌, List, [], ◌∷◌, ◌++◌, Option, Some, None, refl, sym, ap, subst, ◌∙◌, arith, append-nil, inl, inr, ◌≢◌}
use Rattle.std.proofs.lemmas.Bool.{cases_lt, eqb-false, ne_eqb}
use Rattle.hex.specs.Hex.{hex_digit_value}
use Rattle.jser_digits.specs.declared.digit.Alphabet.{Alphabet}
use Rattle.jser_inputs.specs.declared.place.Place.{Place}
use Rattle.jser_inputs.specs.declared.place.Place.TheVariants as place
use Rattle.jser_inputs.specs.declared.place.Step.TheVariants as step
use Rattle.jser_inputs.specs.declared.spot.Spot.{Spot}
use Rattle.jser_inputs.specs.declared.spot.Move.{Move}
use Rattle.jser_inputs.specs.declared.spot.Move.TheVariants as move
use Rattle.jser_inputs.specs.Spaces.{is_space}
use Rattle.jser_digits.specs.Digits.{value_in}
use Rattle.jser_inputs.specs.Places.{first_read, fourth_read, high_read, is_wrong, low_read, move_of, move_over_space, moved, second_read, space_passed, step_by_place, third_read}
use Rattle.jser_inputs.specs.Spelled.{Reads, counted, right_until}

-- a place in a text of digits
abbrev pub IsDigitPlace : Place → Type 0
IsDigitPlace place.Bytes = ⊥
IsDigitPlace place.High = Unit {0}
IsDigitPlace (place.Low high) = Unit {0}
IsDigitPlace (place.First letters) = Unit {0}
IsDigitPlace (place.Second letters bits) = Unit {0}
IsDigitPlace (place.Third letters bits) = Unit {0}
IsDigitPlace (place.Fourth letters bits) = Unit {0}
IsDigitPlace place.Padding = Unit {0}
IsDigitPlace place.Padded = Unit {0}
IsDigitPlace place.Wrong = Unit {0}

-- a character makes room for at most one more
abbrev Grows : ℕ → Move → Type 0
Grows spare (move.Goes next) = IsDigitPlace next.place × (next.spare ≤ spare + 1)
Grows spare (move.Gives byte next) = IsDigitPlace next.place × (next.spare ≤ spare + 1)
Grows spare move.Wrong = Unit {0}

grows_if : (b : Bool) (spare : ℕ) (x y : Move) → Grows spare x → Grows spare y → Grows spare (if b then x else y)
grows_if true spare x y f g = f
grows_if false spare x y f g = g

passed : (at : Place) (spare : ℕ) → IsDigitPlace at → Grows spare (space_passed at spare)
passed at spare digits = grows_if (spare == 0) spare move.Wrong (move.Goes (record { place = at; spare = spare - 1 })) tt (digits, omega arith)

over_space : (at : Place) (spare c : ℕ) → IsDigitPlace at → Grows spare (move_over_space at spare c)
over_space place.Bytes spare c digits = absurd digits
over_space place.High spare c digits = passed place.High spare tt
over_space (place.Low high) spare c digits = passed (place.Low high) spare tt
over_space (place.First letters) spare c digits = passed (place.First letters) spare tt
over_space (place.Second letters bits) spare c digits = passed (place.Second letters bits) spare tt
over_space (place.Third letters bits) spare c digits = passed (place.Third letters bits) spare tt
over_space (place.Fourth letters bits) spare c digits = passed (place.Fourth letters bits) spare tt
over_space place.Padding spare c digits = passed place.Padding spare tt
over_space place.Padded spare c digits = passed place.Padded spare tt
over_space place.Wrong spare c digits = tt

high : (spare : ℕ) (o : Option ℕ) → Grows spare (moved spare (high_read o))
high spare None = tt
high spare (Some h) = (tt, omega arith)

low : (spare h : ℕ) (o : Option ℕ) → Grows spare (moved spare (low_read h o))
low spare h None = tt
low spare h (Some l) = (tt, omega arith)

first : (spare : ℕ) (letters : Alphabet) (o : Option ℕ) → Grows spare (moved spare (first_read letters o))
first spare letters None = tt
first spare letters (Some v) = (tt, omega arith)

second : (spare : ℕ) (letters : Alphabet) (bits : ℕ) (o : Option ℕ) → Grows spare (moved spare (second_read letters bits o))
second spare letters bits None = tt
second spare letters bits (Some v) = (tt, omega arith)

third : (spare : ℕ) (letters : Alphabet) (bits : ℕ) (pad : Bool) (left : Bool) (o : Option ℕ)
    → Grows spare (moved spare (if pad then (if left then step.Goes place.Padding else step.Wrong) else third_read letters bits o))
third spare letters bits true true o = (tt, omega arith)
third spare letters bits true false o = tt
third spare letters bits false left None = tt
third spare letters bits false left (Some v) = (tt, omega arith)

fourth : (spare : ℕ) (letters : Alphabet) (bits : ℕ) (pad : Bool) (left : Bool) (o : Option ℕ)
    → Grows spare (moved spare (if pad then (if left then step.Goes place.Padded else step.Wrong) else fourth_read letters bits o))
fourth spare letters bits true true o = (tt, omega arith)
fourth spare letters bits true false o = tt
fourth spare letters bits false left None = tt
fourth spare letters bits false left (Some v) = (tt, omega arith)

padding : (spare : ℕ) (pad : Bool) → Grows spare (moved spare (if pad then step.Goes place.Padded else step.Wrong))
padding spare true = (tt, omega arith)
padding spare false = tt

by_place : (at : Place) (spare c : ℕ) → IsDigitPlace at → Grows spare (moved spare (step_by_place at c))
by_place place.Bytes spare c digits = absurd digits
by_place place.High spare c digits = high spare (hex_digit_value c)
by_place (place.Low h) spare c digits = low spare h (hex_digit_value c)
by_place (place.First letters) spare c digits = first spare letters (value_in letters c)
by_place (place.Second letters bits) spare c digits = second spare letters bits (value_in letters c)
by_place (place.Third letters bits) spare c digits = third spare letters bits (c == 0x3D) (bits == 0) (value_in letters c)
by_place (place.Fourth letters bits) spare c digits = fourth spare letters bits (c == 0x3D) (bits == 0) (value_in letters c)
by_place place.Padding spare c digits = padding spare (c == 0x3D)
by_place place.Padded spare c digits = tt
by_place place.Wrong spare c digits = tt

grows : (at : Spot) (c : ℕ) → IsDigitPlace at.place → Grows at.spare (move_of at c)
grows at c digits =
    grows_if (is_space c) at.spare (move_over_space at.place at.spare c) (moved at.spare (step_by_place at.place c)) (over_space at.place at.spare c digits) (by_place at.place at.spare c digits)

-- so much white space
abbrev spaces : ℕ → List ℕ
spaces zero = []
spaces (suc k) = 0x20 ∷ spaces k

abbrev spot : Place → ℕ → Spot
spot at spare = record { place = at; spare = spare }

not_zero : (k spare : ℕ) → suc k ≤ spare → (spare == 0) ≡ false
not_zero k spare le = ne_eqb spare 0 (λ e. omega (arith, le, e))

-- where so much may come, all of it is right
step_spaces : (at : Place) (k spare : ℕ) → move_of (spot at spare) 0x20 ≡ space_passed at spare → suc k ≤ spare → right_until (spot at (spare - 1)) (spaces k) ≡ k
    → right_until (spot at spare) (spaces (suc k)) ≡ suc k
unfolding right_until
step_spaces at k spare is room rest =
    ap (λ m. counted m (λ next. right_until next (spaces k))) (is ∙ ap (λ b. if b then move.Wrong else move.Goes (spot at (spare - 1))) (not_zero k spare room)) ∙ ap suc rest

less_one : (k spare : ℕ) → suc k ≤ spare → k ≤ spare - 1
less_one k spare le = omega (arith, le)

over_spaces : (k : ℕ) (at : Place) (spare : ℕ) → is_wrong at ≡ false → (IsDigitPlace at → k ≤ spare) → right_until (spot at spare) (spaces k) ≡ k
unfolding right_until
over_spaces zero at spare fine room = refl
over_spaces (suc k) place.Bytes spare fine room = ap suc (over_spaces k place.Bytes spare fine (λ d. absurd d))
over_spaces (suc k) place.High spare fine room = step_spaces place.High k spare refl (room tt) (over_spaces k place.High (spare - 1) fine (λ d. less_one k spare (room d)))
over_spaces (suc k) (place.Low h) spare fine room = step_spaces (place.Low h) k spare refl (room tt) (over_spaces k (place.Low h) (spare - 1) fine (λ d. less_one k spare (room d)))
over_spaces (suc k) (place.First l) spare fine room = step_spaces (place.First l) k spare refl (room tt) (over_spaces k (place.First l) (spare - 1) fine (λ d. less_one k spare (room d)))
over_spaces (suc k) (place.Second l b) spare fine room = step_spaces (place.Second l b) k spare refl (room tt) (over_spaces k (place.Second l b) (spare - 1) fine (λ d. less_one k spare (room d)))
over_spaces (suc k) (place.Third l b) spare fine room = step_spaces (place.Third l b) k spare refl (room tt) (over_spaces k (place.Third l b) (spare - 1) fine (λ d. less_one k spare (room d)))
over_spaces (suc k) (place.Fourth l b) spare fine room = step_spaces (place.Fourth l b) k spare refl (room tt) (over_spaces k (place.Fourth l b) (spare - 1) fine (λ d. less_one k spare (room d)))
over_spaces (suc k) place.Padding spare fine room = step_spaces place.Padding k spare refl (room tt) (over_spaces k place.Padding (spare - 1) fine (λ d. less_one k spare (room d)))
over_spaces (suc k) place.Padded spare fine room = step_spaces place.Padded k spare refl (room tt) (over_spaces k place.Padded (spare - 1) fine (λ d. less_one k spare (room d)))
over_spaces (suc k) place.Wrong spare fine room = absurd (cc)

-- no more of it is right than may come, and one for each character before it
below_step : (m : Move) (spare : ℕ) (text : List ℕ) (k : ℕ) → Grows spare m
    → ((next : Spot) → IsDigitPlace next.place → right_until next (text ++ spaces k) ≤ right_until next text + (next.spare + length text))
    → counted m (λ next. right_until next (text ++ spaces k)) ≤ counted m (λ next. right_until next text) + (spare + suc (length text))
below_step (move.Goes next) spare text k g ih = let h = ih next g.0 in let s = g.1 in omega (arith, h, s)
below_step (move.Gives byte next) spare text k g ih = let h = ih next g.0 in let s = g.1 in omega (arith, h, s)
below_step move.Wrong spare text k g ih = omega arith

spaces_if : (b : Bool) (at : Place) (spare k : ℕ) → (spare == 0) ≡ b → right_until (spot at (spare - 1)) (spaces k) ≤ spare - 1
    → counted (if b then move.Wrong else move.Goes (spot at (spare - 1))) (λ next. right_until next (spaces k)) ≤ spare
spaces_if true at spare k is rest = omega arith
spaces_if false at spare k is rest = let ne : spare ≢ 0 = eqb-false spare 0 is in omega (arith, rest, ne)

some_spaces : (at : Place) (k spare : ℕ) → move_of (spot at spare) 0x20 ≡ space_passed at spare → right_until (spot at (spare - 1)) (spaces k) ≤ spare - 1
    → right_until (spot at spare) (spaces (suc k)) ≤ spare
unfolding right_until
some_spaces at k spare is rest =
    subst (λ m. counted m (λ next. right_until next (spaces k)) ≤ spare) (sym is) (spaces_if (spare == 0) at spare k refl rest)

few_spaces : (k : ℕ) (at : Place) (spare : ℕ) → IsDigitPlace at → right_until (spot at spare) (spaces k) ≤ spare
unfolding right_until
few_spaces zero at spare d = omega arith
few_spaces (suc k) place.Bytes spare d = absurd d
few_spaces (suc k) place.High spare d = some_spaces place.High k spare refl (few_spaces k place.High (spare - 1) d)
few_spaces (suc k) (place.Low h) spare d = some_spaces (place.Low h) k spare refl (few_spaces k (place.Low h) (spare - 1) d)
few_spaces (suc k) (place.First l) spare d = some_spaces (place.First l) k spare refl (few_spaces k (place.First l) (spare - 1) d)
few_spaces (suc k) (place.Second l b) spare d = some_spaces (place.Second l b) k spare refl (few_spaces k (place.Second l b) (spare - 1) d)
few_spaces (suc k) (place.Third l b) spare d = some_spaces (place.Third l b) k spare refl (few_spaces k (place.Third l b) (spare - 1) d)
few_spaces (suc k) (place.Fourth l b) spare d = some_spaces (place.Fourth l b) k spare refl (few_spaces k (place.Fourth l b) (spare - 1) d)
few_spaces (suc k) place.Padding spare d = some_spaces place.Padding k spare refl (few_spaces k place.Padding (spare - 1) d)
few_spaces (suc k) place.Padded spare d = some_spaces place.Padded k spare refl (few_spaces k place.Padded (spare - 1) d)
few_spaces (suc k) place.Wrong spare d = omega arith

below : (text : List ℕ) (at : Spot) (k : ℕ) → IsDigitPlace at.place → right_until at (text ++ spaces k) ≤ right_until at text + (at.spare + length text)
unfolding right_until
below [] at k d = let h = few_spaces k at.place at.spare d in omega (arith, h)
below (c ∷ text) at k d = below_step (move_of at c) at.spare text k (grows at c d) (λ next e. below text next k e)

-- a text that was read in full without a fault may go on with so much white space
pub spare_within : (start now : Spot) (text out : List ℕ) (taken : ℕ) → IsDigitPlace start.place → Reads start now text [] out taken → is_wrong now.place ≡ false
    → now.spare ≤ start.spare + length text
unfolding right_until
spare_within start now text out taken d r fine = elim (cases_lt (start.spare + length text) now.spare) [
  | inl more ↦
      let k : ℕ = suc (start.spare + length text) in
      let all : right_until now (spaces k) ≡ k = over_spaces k now.place now.spare fine (λ e. omega (arith, more)) in
      let most = below text start k d in
      let here = r.right (spaces k) in
      let none : right_until start text ≡ taken + 0 = ap (λ xs. right_until start xs) (sym (append-nil text)) ∙ r.right [] in
      omega (arith, all, most, here, none)
  | inr le ↦ omega (arith, le)
]
