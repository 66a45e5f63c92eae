-- The units of strings, kept one text after another.
use Rattle.std.proofs.Common.{◌≡◌, ℕ, zero, suc, ◌+◌, ◌<◌, ◌≤◌, Bool, true, false, List, [], ◌∷◌, ◌++◌, length, take, drop, slice_get, slice_index_or, Some, refl, sym, ◌∙◌, ap, ap₂, arith, min, ◌⊎◌, inl, inr, length-append, length-drop, append-nil}
use Rattle.std.proofs.lemmas.List.{take-append-le, drop-append-le, take_all}
use Rattle.std.proofs.Math.Seq.{take-add, drop-append_seam}
use Rattle.std.specs.Prelude.{nat_lt}
use Rattle.std.proofs.lemmas.Bool.Decides.{nat_tests}
use Rattle.jser_prim.specs.ModifiedUtf8.{IsUnits, modified_utf8}
use Rattle.jser_index.specs.declared.spot.Spot.{Spot}
use Rattle.jser_index.specs.declared.spot.Spot.TheVariants as spot
use Rattle.jser_index.specs.Decoding.{PutsNarrow}
use Rattle.jser_index.specs.Keeping.{Kept, KeepsFronts, PutsUnits, AddsNarrow, Extends, IsKeptAt, HasTextAt, IsIn, IsNext, units_at, text_or_none}
use Rattle.jser_index.proofs.DecodeLemmas.{narrow_units}

pub narrow_added : (bytes now old made new : List ℕ) (used : ℕ) (narrow : Bool) → now ≡ take used old → used ≤ length old → KeepsFronts old made
    → PutsNarrow bytes used narrow made new → narrow ≡ true
    → (take (used + length bytes) new ≡ now ++ bytes) × ((k : ℕ) → k < length bytes → slice_index_or bytes k 0 < 0x80)
narrow_added bytes now old made new used narrow is le kept puts on =
    let back = puts.back on in (
      take-add used (length bytes) new ∙ ap₂ (λ xs ys. xs ++ ys) (puts.front ∙ kept.fronts used le ∙ sym is) back.units,
      back.narrow,
    )

pub units_added : (units now old made new : List ℕ) (used : ℕ) → now ≡ take used old → used ≤ length old → KeepsFronts old made
    → PutsUnits units used made new → take (used + length units) new ≡ now ++ units
units_added units now old made new used is le kept puts =
    take-add used (length units) new ∙ ap₂ (λ xs ys. xs ++ ys) (puts.front ∙ kept.fronts used le ∙ sym is) puts.back

-- more of them

pub extends_none : (kept : Kept) → Extends kept kept
extends_none kept = record { near_more = []; far_more = []; near_is = sym (append-nil kept.near); far_is = sym (append-nil kept.far) }

pub extends_near : (old new : Kept) (units : List ℕ) → new.near ≡ old.near ++ units → new.far ≡ old.far → Extends old new
extends_near old new units near far = record { near_more = units; far_more = []; near_is = near; far_is = far ∙ sym (append-nil old.far) }

pub extends_far : (old new : Kept) (units : List ℕ) → new.near ≡ old.near → new.far ≡ old.far ++ (units ∷ []) → Extends old new
extends_far old new units near far = record { near_more = []; far_more = units ∷ []; near_is = near ∙ sym (append-nil old.near); far_is = far }

-- where the next ones are kept

kept_near : (near new units : List ℕ) (s : Spot) (old : Kept) (now : Kept) → IsNext near (length units) s → now.near ≡ near ++ units → IsKeptAt now s units
kept_near near new units (spot.Near start len) old now next is =
    let n = ap length is ∙ length-append near units in
    record {
      within = omega (arith, next.0, next.1);
      is =
          ap₂ (λ k xs. take len (drop k xs)) next.0 is ∙ ap (take len) (drop-append_seam near units)
          ∙ take_all len units (omega (arith, next.1));
    }
kept_near near new units (spot.Far number) old now next is = absurd next

pub kept_next : (units : List ℕ) (s : Spot) (old now : Kept) → IsNext old.near (length units) s → now.near ≡ old.near ++ units → IsKeptAt now s units
kept_next units s old now next is = kept_near old.near units units s old now next is

last_far : (far : List (List ℕ)) (units : List ℕ) → slice_get (far ++ (units ∷ [])) (length far) ≡ Some units
last_far [] units = refl
last_far (t ∷ far) units = last_far far units

pub kept_far : (units : List ℕ) (number : ℕ) (old now : Kept) → number ≡ length old.far → now.far ≡ old.far ++ (units ∷ []) → IsKeptAt now (spot.Far number) units
kept_far units number old now e is =
    let n = ap length is ∙ length-append old.far (units ∷ []) in
    record {
      within = omega (arith, e);
      is = ap₂ (λ k xs. text_or_none (slice_get xs k)) e is ∙ ap text_or_none (last_far old.far units);
    }

-- the units of a text

pub has_narrow : (bytes : List ℕ) (s : Spot) (kept : Kept) → IsKeptAt kept s bytes → ((k : ℕ) → k < length bytes → slice_index_or bytes k 0 < 0x80) → HasTextAt kept s bytes
has_narrow bytes s kept at below = record {
  within = at.within;
  spelled = λ told are e. at.is ∙ narrow_units told bytes are e below;
}

pub has_units : (bytes units : List ℕ) (s : Spot) (kept : Kept) → IsKeptAt kept s units → ((told : List ℕ) → IsUnits told → modified_utf8 told ≡ bytes → units ≡ told) → HasTextAt kept s bytes
has_units bytes units s kept at spelled = record {
  within = at.within;
  spelled = λ told are e. at.is ∙ spelled told are e;
}

pub narrow_kept : (bytes : List ℕ) (s : Spot) (near new : List ℕ) (kept : Kept) → IsNext near (length bytes) s → AddsNarrow bytes true near new → kept.near ≡ new
    → HasTextAt kept s bytes
narrow_kept bytes s near new kept next adds is = has_narrow bytes s kept (kept_near near new bytes s kept kept next (is ∙ adds.0)) adds.1

-- as far as there are any

drop_past : (n : ℕ) (xs : List ℕ) → length xs ≤ n → drop n xs ≡ []
drop_past zero [] le = refl
drop_past (suc n) [] le = refl
drop_past zero (x ∷ xs) le = absurd (omega arith)
drop_past (suc n) (x ∷ xs) le = drop_past n xs (omega arith)

most : (n m : ℕ) (b : Bool) → nat_lt n m ≡ b → (min n m ≡ n) ⊎ ((min n m ≡ m) × (m ≤ n))
most n m true t = let less : n < m = grind (arith, nat_tests) in inl (omega arith)
most n m false t = let le : m ≤ n = grind (arith, nat_tests) in inr ((omega arith, le))

pub drop_most : (n : ℕ) (xs : List ℕ) → drop (min n (length xs)) xs ≡ drop n xs
drop_most n xs = elim (most n (length xs) (nat_lt n (length xs)) refl) [
  | inl e ↦ ap (λ k. drop k xs) e
  | inr e ↦ ap (λ k. drop k xs) e.0 ∙ drop_past (length xs) xs (omega arith) ∙ sym (drop_past n xs e.1)
]

pub take_most : (n : ℕ) (xs : List ℕ) → take (min n (length xs)) xs ≡ take n xs
take_most n xs = elim (most n (length xs) (nat_lt n (length xs)) refl) [
  | inl e ↦ ap (λ k. take k xs) e
  | inr e ↦ ap (λ k. take k xs) e.0 ∙ take_all (length xs) xs (omega arith) ∙ sym (take_all n xs e.1)
]

-- what was kept at a spot stays there

pub stays_in : (old new : Kept) (s : Spot) → Extends old new → IsIn old s → IsIn new s
stays_in old new (spot.Near start len) more h =
    let n = ap length more.near_is ∙ length-append old.near more.near_more in omega arith
stays_in old new (spot.Far number) more h =
    let n = ap length more.far_is ∙ length-append old.far more.far_more in omega arith

same_far : (far more : List (List ℕ)) (k : ℕ) → k < length far → slice_get (far ++ more) k ≡ slice_get far k
same_far [] more k less = absurd (omega arith)
same_far (t ∷ far) more zero less = refl
same_far (t ∷ far) more (suc k) less = same_far far more k (omega arith)

pub stays : (old new : Kept) (s : Spot) → Extends old new → IsIn old s → units_at new s ≡ units_at old s
stays old new (spot.Near start len) more h =
    let n = length-drop start old.near in
    ap (λ xs. take len (drop start xs)) more.near_is ∙ ap (take len) (drop-append-le start old.near more.near_more (omega arith))
    ∙ take-append-le len (drop start old.near) more.near_more (omega arith)
stays old new (spot.Far number) more h = ap (λ xs. text_or_none (slice_get xs number)) more.far_is ∙ ap text_or_none (same_far old.far more.far_more number h)
