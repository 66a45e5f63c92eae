-- Cutting a list of units: into its parts, and from its end.
use Rattle.std.proofs.Common.{◌≡◌, ℕ, suc, ◌+◌, ◌<◌, ◌≤◌, ltb, not, length, take, drop, option_map, arith, Bool, true, false, ◌==◌, cond, List, [], ◌∷◌, ◌++◌, Option, Some, None, refl, ap, sym, ◌∙◌}
use Rattle.std.proofs.lemmas.Bool.{ne_eqb, eq-eqb, ltb-true, ltb-false}
use Rattle.std.specs.List.{position_or_len, onto_first}
use Rattle.std.proofs.lemmas.List.{length-drop}
use Rattle.std.proofs.lemmas.List.Splits.{slice_split_first}
use Rattle.jser_filter.specs.Cuts.{cut, split_at_each, before_last, front_with}

front_with-cond : (at unit : ℕ) (test : Bool) (rest : List ℕ) → front_with at unit (cond test (Some rest) (before_last at rest)) ≡ cond test (Some (unit ∷ rest)) (before_last at (unit ∷ rest))
front_with-cond at unit true rest = refl
front_with-cond at unit false rest = refl

before_last-push : (at last : ℕ) (rest : List ℕ) → before_last at (rest ++ last ∷ []) ≡ cond (last == at) (Some rest) (before_last at rest)
before_last-push at last [] = refl
before_last-push at last (unit ∷ rest) = ap (front_with at unit) (before_last-push at last rest) ∙ front_with-cond at unit (last == at) rest

-- the last unit is the one
pub before_last_here : (at last : ℕ) (front rest : List ℕ) → front ≡ rest ++ last ∷ [] → last ≡ at → Some rest ≡ before_last at front
before_last_here at last front rest is here = rw (is, before_last-push at last rest, eq-eqb last at here) refl

-- it is not, and what stands before it decides
pub before_last_earlier : (at last : ℕ) (front rest : List ℕ) → front ≡ rest ++ last ∷ [] → (last ≡ at → ⊥) → before_last at front ≡ before_last at rest
before_last_earlier at last front rest is other = rw (is, before_last-push at last rest, ne_eqb last at other) refl

-- the parts of a text

none_step : (at unit : ℕ) (units : List ℕ) (test : Bool) → (length units ≤ position_or_len (λ u. u == at) units → split_at_each at units ≡ units ∷ []) → suc (length units) ≤ cond (not test) (1 + position_or_len (λ u. u == at) units) 0 → cond test ([] ∷ split_at_each at units) (onto_first unit (split_at_each at units)) ≡ (unit ∷ units) ∷ []
none_step at unit units true others none = absurd (omega arith)
none_step at unit units false others none = ap (onto_first unit) (others (omega arith))

one_part : (at : ℕ) (units : List ℕ) → length units ≤ position_or_len (λ u. u == at) units → split_at_each at units ≡ units ∷ []
one_part at [] none = refl
one_part at (unit ∷ units) none = none_step at unit units (unit == at) (one_part at units) none

abbrev parts_after : ℕ → List ℕ → Option (List ℕ × List ℕ) → List (List ℕ)
parts_after at units None = units ∷ []
parts_after at units (Some (part, rest)) = part ∷ split_at_each at rest

parts_by_place : (at : ℕ) (units : List ℕ) (test : Bool) → ltb (position_or_len (λ u. u == at) units) (length units) ≡ test → split_at_each at units ≡ parts_after at units (option_map (λ place. (take place units, drop (place + 1) units)) (cond test (Some (position_or_len (λ u. u == at) units)) None))
parts_by_place at units true is = slice_split_first (λ u. u == at) units 0 (ltb-true (position_or_len (λ u. u == at) units) (length units) is)
parts_by_place at units false is = one_part at units (ltb-false (position_or_len (λ u. u == at) units) (length units) is)

parts_by_cut : (at : ℕ) (units : List ℕ) → split_at_each at units ≡ parts_after at units (cut at units)
parts_by_cut at units = parts_by_place at units (ltb (position_or_len (λ u. u == at) units) (length units)) refl

pub parts_cut : (at : ℕ) (units part rest : List ℕ) → Some (part, rest) ≡ cut at units → split_at_each at units ≡ part ∷ split_at_each at rest
parts_cut at units part rest is = parts_by_cut at units ∙ ap (parts_after at units) (sym is)

pub parts_uncut : (at : ℕ) (units : List ℕ) → None ≡ cut at units → split_at_each at units ≡ units ∷ []
parts_uncut at units is = parts_by_cut at units ∙ ap (parts_after at units) (sym is)

abbrev rest_of : Option (List ℕ × List ℕ) → List ℕ
rest_of None = []
rest_of (Some (part, rest)) = rest

back_shorter : (at : ℕ) (units : List ℕ) (test : Bool) → ltb (position_or_len (λ u. u == at) units) (length units) ≡ test → 0 < length units → length (rest_of (option_map (λ place. (take place units, drop (place + 1) units)) (cond test (Some (position_or_len (λ u. u == at) units)) None))) < length units
back_shorter at units true is some = omega (arith, length-drop (position_or_len (λ u. u == at) units + 1) units)
back_shorter at units false is some = some

cut_some : (at : ℕ) (units part rest : List ℕ) → Some (part, rest) ≡ cut at units → 0 < length units
cut_some at [] part rest is = cc
cut_some at (unit ∷ units) part rest is = omega arith

pub shorter_back : (at : ℕ) (units part rest : List ℕ) → Some (part, rest) ≡ cut at units → length rest < length units
shorter_back at units part rest is =
    let whole = back_shorter at units (ltb (position_or_len (λ u. u == at) units) (length units)) refl (cut_some at units part rest is) in
    omega (arith, whole, ap length (ap rest_of is))
