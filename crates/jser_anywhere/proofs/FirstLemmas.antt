-- The first of the hidden names of all places.
use Rattle.std.proofs.Common.{◌≡◌, ℕ, ◌+◌, ◌<◌, ◌≤◌, subst, Bool, true, false, inl, inr, if◌then◌else◌, Option, Some, None, List, [], length, drop, refl, arith}
use Rattle.std.specs.Prelude.{nat_le}
use Rattle.std.proofs.lemmas.Bool.{cases_lt, leb-true}
use Rattle.std.proofs.lemmas.Bool.Decides.{nat_tests}
use Rattle.std.proofs.Math.ListN.{drop_of_length-le}
use Rattle.jser_anywhere.specs.Search.{hidden_here, FirstBefore, TellsFirst, is_settled, sooner}
use Rattle.jser_anywhere.specs.Standing.{Begins, HiddenAt, NotAfter}
use Rattle.jser_anywhere.specs.declared.hidden.Hidden.{Hidden}
use Rattle.jser_anywhere.proofs.PlaceLemmas.{NotBefore, here_finds, here_least}

-- a name has at least four bytes with its mark and length
pub begins_long : (bytes : List ℕ) (end : ℕ) (units : List ℕ) → Begins bytes end units → 4 ≤ end
begins_long bytes end units (inl d) = omega (arith, d.ends, d.name.ends, d.name.least)
begins_long bytes end units (inr i) = omega (arith, i.ends)

-- where there are no bytes there is none
pub begins_none : (end : ℕ) (units : List ℕ) → Begins [] end units → ⊥
begins_none end units (inl d) = let e = d.split in absurd cc
begins_none end units (inr i) = let e = i.split in absurd cc

pub first_none : (passes : List ℕ → Bool) (bytes : List ℕ) → FirstBefore passes bytes 0 None
first_none passes bytes = λ from to less h. absurd (omega arith)

pub first_settled : (passes : List ℕ → Bool) (bytes : List ℕ) (from : ℕ) (first : Option Hidden) → FirstBefore passes bytes from first → is_settled first from ≡ true → TellsFirst passes bytes first
first_settled passes bytes from None before e = absurd cc
first_settled passes bytes from (Some h) before e = record {
  hidden = before.0;
  first = λ f t hidden. elim (cases_lt f from) [
    | inl less ↦ before.1 f t less hidden
    | inr not ↦ let long = begins_long (drop f bytes) hidden.stands.end hidden.units hidden.stands.begins in
        inl (omega (arith, leb-true h.to (from + 3) e, hidden.stands.ends))
  ];
}

beyond : (passes : List ℕ → Bool) (bytes : List ℕ) (from to : ℕ) → length bytes ≤ from → HiddenAt passes bytes from to → ⊥
beyond passes bytes from to long hidden =
    begins_none hidden.stands.end hidden.units (subst (λ (xs : List ℕ). Begins xs hidden.stands.end hidden.units) (drop_of_length-le bytes long) hidden.stands.begins)

pub first_whole : (passes : List ℕ → Bool) (bytes : List ℕ) (from : ℕ) (first : Option Hidden) → FirstBefore passes bytes from first → length bytes ≤ from → TellsFirst passes bytes first
first_whole passes bytes from None before long = λ f t hidden. elim (cases_lt f from) [
  | inl less ↦ before f t less hidden
  | inr not ↦ beyond passes bytes f t (omega arith) hidden
]
first_whole passes bytes from (Some h) before long = record {
  hidden = before.0;
  first = λ f t hidden. elim (cases_lt f from) [
    | inl less ↦ before.1 f t less hidden
    | inr not ↦ absurd (beyond passes bytes f t (omega arith) hidden)
  ];
}

-- what one place more adds
none_here : (passes : List ℕ → Bool) (bytes : List ℕ) (from to : ℕ) → hidden_here passes (drop from bytes) ≡ None → HiddenAt passes bytes from to → ⊥
none_here passes bytes from to e hidden =
    subst (λ o. NotBefore o hidden.stands.end) e (here_least passes (drop from bytes) hidden.stands.end hidden.units hidden.stands.begins hidden.fails)

least_here : (passes : List ℕ → Bool) (bytes : List ℕ) (from to end : ℕ) → hidden_here passes (drop from bytes) ≡ Some end → HiddenAt passes bytes from to → from + end ≤ to
least_here passes bytes from to end e hidden =
    let n : end ≤ hidden.stands.end = subst (λ o. NotBefore o hidden.stands.end) e (here_least passes (drop from bytes) hidden.stands.end hidden.units hidden.stands.begins hidden.fails) in
    omega (arith, hidden.stands.ends)

at_place : (passes : List ℕ → Bool) (bytes : List ℕ) (f from to : ℕ) → f ≡ from → HiddenAt passes bytes f to → HiddenAt passes bytes from to
at_place passes bytes f from to e hidden = subst (λ (n : ℕ). HiddenAt passes bytes n to) e hidden

pub first_same : (passes : List ℕ → Bool) (bytes : List ℕ) (from : ℕ) (first : Option Hidden) → FirstBefore passes bytes from first → hidden_here passes (drop from bytes) ≡ None
    → FirstBefore passes bytes (from + 1) first
first_same passes bytes from None before e = λ f t less hidden. elim (cases_lt f from) [
  | inl earlier ↦ before f t earlier hidden
  | inr not ↦ none_here passes bytes from t e (at_place passes bytes f from t (omega arith) hidden)
]
first_same passes bytes from (Some h) before e = (
  before.0,
  λ f t less hidden. elim (cases_lt f from) [
    | inl earlier ↦ before.1 f t earlier hidden
    | inr not ↦ absurd (none_here passes bytes from t e (at_place passes bytes f from t (omega arith) hidden))
  ],
  omega (arith, before.2),
)

found_here : (passes : List ℕ → Bool) (bytes : List ℕ) (from end : ℕ) → hidden_here passes (drop from bytes) ≡ Some end → HiddenAt passes bytes from (from + end)
found_here passes bytes from end e =
    let found = here_finds passes (drop from bytes) end e in
    record { units = found.units; stands = record { end = end; begins = found.begins; ends = refl }; fails = found.fails }

not_after : (to from other_to other_from : ℕ) → to ≤ other_to → from ≤ other_from → NotAfter from to other_from other_to
not_after to from other_to other_from l p = elim (cases_lt to other_to) [ inl less ↦ inl less | inr not ↦ inr (omega arith, p) ]

earlier_wins : (h_from h_to from to t f : ℕ) → to < h_to → NotAfter h_from h_to f t → NotAfter from to f t
earlier_wins h_from h_to from to t f less (inl l) = inl (omega arith)
earlier_wins h_from h_to from to t f less (inr l) = inl (omega (arith, l.0))

or_sooner : (passes : List ℕ → Bool) (bytes : List ℕ) (from end : ℕ) (h : Hidden) → FirstBefore passes bytes from (Some h) → h.from ≤ from → hidden_here passes (drop from bytes) ≡ Some end
    → (is : Bool) → nat_le h.to (from + end) ≡ is
    → FirstBefore passes bytes (from + 1) (if is then Some h else Some (record { from = from; to = from + end }))
or_sooner passes bytes from end h before earlier e true is = (
  before.0,
  λ f t less hidden. elim (cases_lt f from) [
    | inl below ↦ before.1 f t below hidden
    | inr not ↦
        let l = least_here passes bytes from t end e (at_place passes bytes f from t (omega arith) hidden) in
        not_after h.to h.from t f (omega (arith, leb-true h.to (from + end) is)) (omega arith)
  ],
  omega (arith, before.2),
)
or_sooner passes bytes from end h before earlier e false is = (
  found_here passes bytes from end e,
  λ f t less hidden. elim (cases_lt f from) [
    | inl below ↦ earlier_wins h.from h.to from (from + end) t f (grind (arith, nat_tests, is)) (before.1 f t below hidden)
    | inr not ↦
        let l = least_here passes bytes from t end e (at_place passes bytes f from t (omega arith) hidden) in
        not_after (from + end) from t f l (omega arith)
  ],
  omega arith,
)

pub first_more : (passes : List ℕ → Bool) (bytes : List ℕ) (from end : ℕ) (first : Option Hidden) → FirstBefore passes bytes from first → hidden_here passes (drop from bytes) ≡ Some end
    → FirstBefore passes bytes (from + 1) (sooner first (record { from = from; to = from + end }))
first_more passes bytes from end None before e = (
  found_here passes bytes from end e,
  λ f t less hidden. elim (cases_lt f from) [
    | inl earlier ↦ absurd (before f t earlier hidden)
    | inr not ↦
        let l = least_here passes bytes from t end e (at_place passes bytes f from t (omega arith) hidden) in
        not_after (from + end) from t f l (omega arith)
  ],
  omega arith,
)
first_more passes bytes from end (Some h) before e = or_sooner passes bytes from end h before (omega (arith, before.2)) e (nat_le h.to (from + end)) refl
