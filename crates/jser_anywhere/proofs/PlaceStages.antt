-- Of all bytes, the last one first: the names that end with a further byte are those that places meet there.
use Rattle.std.proofs.Common.{◌≡◌, ℕ, ◌+◌, ◌<◌, ◌≤◌, ◌∙◌, ap, sym, subst, Bool, true, false, ◌==◌, inl, inr, if◌then◌else◌, Some, List, [], ◌∷◌, ◌++◌, length, drop, reverse, refl, arith, length-append, length-drop, eqb-true}
use Rattle.std.proofs.lemmas.Bool.{cases_lt}
use Rattle.std.proofs.lemmas.Bool.Decides.{nat_tests}
use Rattle.std.proofs.lemmas.List.{length-reverse, reverse-reverse, drop-append-le, drop_at, drop_all}
use Rattle.jser_anywhere.specs.Standing.{Begins, StandsAt}
use Rattle.jser_anywhere.specs.Stages.{Stage, nothing, begin, next, ended, stage_of}
use Rattle.jser_anywhere.proofs.StageLemmas.{reversed, run, ended_append, run_append, met, met_stands, standing_met}

-- the stage after some bytes
abbrev pub stage_from : List ℕ → Stage
stage_from [] = nothing
stage_from (mark ∷ bytes) = run (begin mark) bytes

pub stage_here : (byte : ℕ) (back : List ℕ) → stage_of (length back) (byte ∷ back) ≡ begin byte
stage_here byte back =
    let e : (length back == length back) ≡ true = grind (arith, nat_tests) in
    ap (λ b. if b then begin byte else next (stage_of (length back) back) byte) e

pub stage_later : (place byte : ℕ) (back : List ℕ) → (place == length back) ≡ false → stage_of place (byte ∷ back) ≡ next (stage_of place back) byte
stage_later place byte back e = ap (λ b. if b then begin byte else next (stage_of place back) byte) e

from_more : (bytes : List ℕ) (byte : ℕ) → 1 ≤ length bytes → stage_from (bytes ++ byte ∷ []) ≡ next (stage_from bytes) byte
from_more [] byte some = absurd (omega (arith, some))
from_more (mark ∷ bytes) byte some = run_append (begin mark) bytes (byte ∷ [])

met_last : (bytes : List ℕ) (byte : ℕ) → met (bytes ++ byte ∷ []) ≡ ended (stage_from bytes) byte
met_last [] byte = refl
met_last (mark ∷ bytes) byte = ended_append (begin mark) bytes byte []

-- a byte more, at each side of the place
back_by : (place byte : ℕ) (back : List ℕ) → stage_of place back ≡ stage_from (drop place (reverse back)) → (is : Bool) → (place == length back) ≡ is
    → stage_of place (byte ∷ back) ≡ stage_from (drop place (reverse back ++ byte ∷ []))
back_by place byte back same true is =
    let e : place ≡ length back = eqb-true place (length back) is in
    ap (λ (n : ℕ). stage_of n (byte ∷ back)) e ∙ stage_here byte back
    ∙ sym (ap stage_from (drop_at (reverse back) (byte ∷ []) place (omega (arith, e, length-reverse back))))
back_by place byte back same false is = elim (cases_lt place (length back)) [
  | inl less ↦
      stage_later place byte back is ∙ ap (λ s. next s byte) same
      ∙ sym (from_more (drop place (reverse back)) byte (omega (arith, less, length-drop place (reverse back), length-reverse back)))
      ∙ ap stage_from (sym (drop-append-le place (reverse back) (byte ∷ []) (omega (arith, less, length-reverse back))))
  | inr not ↦
      let more : length back < place = grind (arith, nat_tests, is, not) in
      stage_later place byte back is ∙ ap (λ s. next s byte) (same ∙ ap stage_from (drop_all place (reverse back) (omega (arith, more, length-reverse back))))
      ∙ sym (ap stage_from (drop_all place (reverse back ++ byte ∷ []) (omega (arith, more, length-append (reverse back) (byte ∷ []), length-reverse back))))
]

pub back_from : (place : ℕ) (back : List ℕ) → stage_of place back ≡ stage_from (drop place (reverse back))
back_from place [] = ap stage_from (sym (drop_all place [] (omega arith)))
back_from place (byte ∷ back) =
    back_by place byte back (back_from place back) (place == length back) refl ∙ ap (λ (xs : List ℕ). stage_from (drop place xs)) (sym (reversed byte back))

-- with all bytes in their order
forward : (place : ℕ) (taken : List ℕ) → stage_of place (reverse taken) ≡ stage_from (drop place taken)
forward place taken = back_from place (reverse taken) ∙ ap (λ (xs : List ℕ). stage_from (drop place xs)) (reverse-reverse taken)

met_at : (place byte : ℕ) (taken : List ℕ) → place ≤ length taken → met (drop place (taken ++ byte ∷ [])) ≡ ended (stage_of place (reverse taken)) byte
met_at place byte taken within =
    ap met (drop-append-le place taken (byte ∷ []) within) ∙ met_last (drop place taken) byte ∙ ap (λ s. ended s byte) (sym (forward place taken))

-- the name that stands at a place and ends with the byte
pub stands_ended : (place byte : ℕ) (taken units : List ℕ) → StandsAt (taken ++ byte ∷ []) place (length taken + 1) units
    → ended (stage_of place (reverse taken)) byte ≡ Some units
stands_ended place byte taken units stands = elim (cases_lt (length taken) place) [
  | inl beyond ↦
      let none : drop place (taken ++ byte ∷ []) ≡ [] = drop_all place (taken ++ byte ∷ []) (omega (arith, beyond, length-append taken (byte ∷ []))) in
      let met_none : met [] ≡ Some units = standing_met [] stands.end units (subst (λ (xs : List ℕ). Begins xs stands.end units) none stands.begins) (omega (arith, stands.ends, beyond)) in
      absurd cc
  | inr not ↦
      sym (met_at place byte taken (omega arith))
      ∙ standing_met (drop place (taken ++ byte ∷ [])) stands.end units stands.begins (omega (arith, stands.ends, length-drop place (taken ++ byte ∷ []), length-append taken (byte ∷ [])))
]

pub ended_stands : (place byte : ℕ) (taken units : List ℕ) → place < length taken → ended (stage_of place (reverse taken)) byte ≡ Some units
    → StandsAt (taken ++ byte ∷ []) place (length taken + 1) units
ended_stands place byte taken units within e = record {
  end = length (drop place (taken ++ byte ∷ []));
  begins = met_stands (drop place (taken ++ byte ∷ [])) units (met_at place byte taken (omega (arith, within)) ∙ e);
  ends = omega (arith, within, length-drop place (taken ++ byte ∷ []), length-append taken (byte ∷ []));
}
