-- Texts: lists of units, their spellings, and the fronts of these.
use Rattle.std.proofs.Common.{◌≡◌, ℕ, zero, suc, ◌+◌, ◌-◌, ◌<◌, ◌≤◌, inl, inr, List, [], ◌∷◌, ◌++◌, length, take, drop, get_or, replicate, refl, arith, sym, ap, subst, ◌∙◌, All, rules, tests, append_assoc}
use Rattle.std.proofs.lemmas.List.{append-nil, length-append, length-replicate, nil_from_length, take-append-drop, take_more}
use Rattle.std.proofs.lemmas.List.Elements.{All-append, All-cons, All-nil, All-same}
use Rattle.jser_prim.specs.ModifiedUtf8.{unit_spelling, modified_utf8, IsUnits}
use Rattle.jser_prim.specs.Texts.{BeginsText, FaultsAfter}
use Rattle.jser_prim.proofs.Units.{form_of, same_unit, spelling_one}

-- of a list of units the first and the rest are units
pub units_head : (unit : ℕ) (units : List ℕ) → IsUnits (unit ∷ units) → unit < 0x10000
units_head unit units are = search (rules, tests)

pub units_tail : (unit : ℕ) (units : List ℕ) → IsUnits (unit ∷ units) → IsUnits units
units_tail unit units are = search (rules, tests)

pub units_cons : (unit : ℕ) (units : List ℕ) → unit < 0x10000 → IsUnits units → IsUnits (unit ∷ units)
units_cons unit units fits are = search (rules, tests)

pub units-append : (us vs : List ℕ) → IsUnits us → IsUnits vs → IsUnits (us ++ vs)
units-append [] vs are-us are-vs = are-vs
units-append (u ∷ us) vs are-us are-vs = units_cons u (us ++ vs) (units_head u us are-us) (units-append us vs (units_tail u us are-us) are-vs)

-- the spelling of a text is that of its parts
pub modified_utf8-append : (us vs : List ℕ) → modified_utf8 (us ++ vs) ≡ modified_utf8 us ++ modified_utf8 vs
modified_utf8-append [] vs = refl
modified_utf8-append (u ∷ us) vs =
    ap (λ xs. unit_spelling u ++ xs) (modified_utf8-append us vs) ∙ sym (append_assoc (unit_spelling u) (modified_utf8 us) (modified_utf8 vs))

pub modified_utf8-one : (unit : ℕ) → modified_utf8 (unit ∷ []) ≡ unit_spelling unit
modified_utf8-one unit = append-nil (unit_spelling unit)

-- a number is between two others
pub record IsWithin (low high n : ℕ) : Type 0 where
  pub least : low ≤ n
  pub most : n ≤ high

-- a unit's spelling has one to three bytes
pub length-unit_spelling : (unit : ℕ) → unit < 0x10000 → IsWithin 1 3 (length (unit_spelling unit))
length-unit_spelling unit fits = elim (form_of unit fits) [
  | inl one ↦ let e = ap length one.spelled in record { least = omega arith; most = omega arith }
  | inr more ↦ elim more [
    | inl two ↦ let e = ap length two.spelled in record { least = omega arith; most = omega arith }
    | inr three ↦ let e = ap length three.spelled in record { least = omega arith; most = omega arith }
  ]
]

-- a text with units has bytes
some_bytes : (unit : ℕ) (units xs : List ℕ) → IsUnits (unit ∷ units) → modified_utf8 (unit ∷ units) ++ xs ≡ [] → ⊥
some_bytes unit units xs are e =
    let l = ap length e in
    let long = length-unit_spelling unit (units_head unit units are) in
    omega (arith, length-append (modified_utf8 (unit ∷ units)) xs, length-append (unit_spelling unit) (modified_utf8 units), long.least)

-- what follows the units that two texts share
pub record GoesOn (us vs xs : List ℕ) : Type 0 where
  pub more : List ℕ
  pub are_units : IsUnits more
  pub whole : vs ≡ us ++ more
  pub spelled : modified_utf8 more ≡ xs

-- a text whose bytes begin with those of another begins with its units
pub text_goes_on : (us vs xs : List ℕ) → IsUnits us → IsUnits vs → modified_utf8 vs ≡ modified_utf8 us ++ xs → GoesOn us vs xs
text_goes_on [] vs xs are-us are-vs e = record { more = vs; are_units = are-vs; whole = refl; spelled = e }
text_goes_on (u ∷ us) [] xs are-us are-vs e = absurd (some_bytes u us xs are-us (sym e))
text_goes_on (u ∷ us) (v ∷ vs) xs are-us are-vs e =
    let parts = same_unit v u (modified_utf8 vs) (modified_utf8 us ++ xs) (units_head v vs are-vs) (units_head u us are-us)
    (e ∙ append_assoc (unit_spelling u) (modified_utf8 us) xs) in
    let rest = text_goes_on us vs xs (units_tail u us are-us) (units_tail v vs are-vs) parts.1 in
    let head : v ≡ u = parts.0 in
    let tail : vs ≡ us ++ rest.more = rest.whole in
    record { more = rest.more; are_units = rest.are_units; whole = cc; spelled = rest.spelled }

-- a spelling is that of one list of units, also where other bytes follow
pub same_units : (us vs xs ys : List ℕ) → IsUnits us → IsUnits vs → length (modified_utf8 us) ≡ length (modified_utf8 vs)
    → modified_utf8 us ++ xs ≡ modified_utf8 vs ++ ys → (us ≡ vs) × (xs ≡ ys)
same_units [] [] xs ys are-us are-vs long e = (refl, e)
same_units [] (v ∷ vs) xs ys are-us are-vs long e = absurd (
    let some = length-unit_spelling v (units_head v vs are-vs) in
    omega (arith, length-append (unit_spelling v) (modified_utf8 vs), some.least))
same_units (u ∷ us) [] xs ys are-us are-vs long e = absurd (
    let some = length-unit_spelling u (units_head u us are-us) in
    omega (arith, length-append (unit_spelling u) (modified_utf8 us), some.least))
same_units (u ∷ us) (v ∷ vs) xs ys are-us are-vs long e =
    let parts = same_unit u v (modified_utf8 us ++ xs) (modified_utf8 vs ++ ys) (units_head u us are-us) (units_head v vs are-vs)
    (sym (append_assoc (unit_spelling u) (modified_utf8 us) xs) ∙ e ∙ append_assoc (unit_spelling v) (modified_utf8 vs) ys) in
    let head : u ≡ v = parts.0 in
    let heads : length (unit_spelling u) ≡ length (unit_spelling v) = ap (λ w. length (unit_spelling w)) head in
    let tails = same_units us vs xs ys (units_tail u us are-us) (units_tail v vs are-vs)
    (omega (arith, heads, length-append (unit_spelling u) (modified_utf8 us), length-append (unit_spelling v) (modified_utf8 vs))) parts.1 in
    let rest : us ≡ vs = tails.0 in
    (cc, tails.1)

-- one spelling has one list of units
pub one_text : (us vs : List ℕ) → IsUnits us → IsUnits vs → modified_utf8 us ≡ modified_utf8 vs → us ≡ vs
one_text us vs are-us are-vs e = (same_units us vs [] [] are-us are-vs (ap length e) (ap (λ xs. xs ++ []) e)).0

-- ---- the bytes of a text

-- each is a byte
pub unit_spelling-fits : (unit : ℕ) → unit < 0x10000 → All (λ b. b < 256) (unit_spelling unit)
unit_spelling-fits unit fits = elim (form_of unit fits) [
  | inl one ↦ All-same (λ b. b < 256) (unit_spelling unit) (unit ∷ []) one.spelled
      (All-cons (λ b. b < 256) unit [] (omega (arith, one.below)) (All-nil (λ b. b < 256)))
  | inr more ↦ elim more [
    | inl two ↦ All-same (λ b. b < 256) (unit_spelling unit) ((0xC0 + two.high) ∷ (0x80 + two.low) ∷ []) two.spelled
        (All-cons (λ b. b < 256) (0xC0 + two.high) ((0x80 + two.low) ∷ []) (omega (arith, two.high_fits))
        (All-cons (λ b. b < 256) (0x80 + two.low) [] (omega (arith, two.low_fits)) (All-nil (λ b. b < 256))))
    | inr three ↦ All-same (λ b. b < 256) (unit_spelling unit) ((0xE0 + three.high) ∷ (0x80 + three.middle) ∷ (0x80 + three.low) ∷ []) three.spelled
        (All-cons (λ b. b < 256) (0xE0 + three.high) ((0x80 + three.middle) ∷ (0x80 + three.low) ∷ []) (omega (arith, three.high_fits))
        (All-cons (λ b. b < 256) (0x80 + three.middle) ((0x80 + three.low) ∷ []) (omega (arith, three.middle_fits))
        (All-cons (λ b. b < 256) (0x80 + three.low) [] (omega (arith, three.low_fits)) (All-nil (λ b. b < 256)))))
  ]
]

pub modified_utf8-fits : (units : List ℕ) → IsUnits units → All (λ b. b < 256) (modified_utf8 units)
modified_utf8-fits [] are = All-nil (λ b. b < 256)
modified_utf8-fits (unit ∷ units) are =
    All-append (λ b. b < 256) (unit_spelling unit) (modified_utf8 units) (unit_spelling-fits unit (units_head unit units are)) (modified_utf8-fits units (units_tail unit units are))

-- one unit more
pub modified_utf8_more : (units : List ℕ) (i : ℕ) → i < length units → modified_utf8 (take (i + 1) units) ≡ modified_utf8 (take i units) ++ unit_spelling (get_or units i 0)
modified_utf8_more units i inside =
    ap modified_utf8 (take_more units i 0 inside) ∙ modified_utf8-append (take i units) (get_or units i 0 ∷ [])
    ∙ ap (λ xs. modified_utf8 (take i units) ++ xs) (modified_utf8-one (get_or units i 0))

-- ---- fronts of texts

-- n units of one byte each fill n bytes
ones_spelled : (n : ℕ) → modified_utf8 (replicate n 1) ≡ replicate n 1
ones_spelled zero = refl
ones_spelled (suc n) = ap (λ xs. xs ++ modified_utf8 (replicate n 1)) (spelling_one 1 (omega arith) (omega arith)) ∙ ap (λ xs. 1 ∷ xs) (ones_spelled n)

ones_are : (n : ℕ) → IsUnits (replicate n 1)
ones_are zero = refl
ones_are (suc n) = units_cons 1 (replicate n 1) (omega arith) (ones_are n)

-- what begins a short enough text begins one of the length
pub begins_longer : (len : ℕ) (units front rest : List ℕ) → IsUnits units → modified_utf8 units ≡ front ++ rest → length front + length rest ≤ len → BeginsText len front
begins_longer len units front rest are spelled fits =
    let missing = len - (length front + length rest) in
    let whole : modified_utf8 (units ++ replicate missing 1) ≡ front ++ (rest ++ replicate missing 1) =
    modified_utf8-append units (replicate missing 1) ∙ ap (λ xs. modified_utf8 units ++ xs) (ones_spelled missing)
    ∙ ap (λ xs. xs ++ replicate missing 1) spelled ∙ append_assoc front rest (replicate missing 1) in
    record {
      units = units ++ replicate missing 1;
      rest = rest ++ replicate missing 1;
      are_units = units-append units (replicate missing 1) are (ones_are missing);
      spelled = whole;
      has_length = omega (arith, ap length whole, length-append front (rest ++ replicate missing 1), length-append rest (replicate missing 1), length-replicate {A = ℕ} missing 1);
    }

-- the front of a front of a text
pub begins_front : (len : ℕ) (xs ys : List ℕ) → BeginsText len (xs ++ ys) → BeginsText len xs
begins_front len xs ys begins = record {
  units = begins.units;
  rest = ys ++ begins.rest;
  are_units = begins.are_units;
  spelled = begins.spelled ∙ append_assoc xs ys begins.rest;
  has_length = begins.has_length;
}

-- no front is longer than its text
pub begins_within : (len : ℕ) (xs : List ℕ) → BeginsText len xs → length xs ≤ len
begins_within len xs begins = omega (arith, begins.has_length, ap length begins.spelled, length-append xs begins.rest)

-- what has the length of its text is one
pub begins_whole : (len : ℕ) (xs : List ℕ) (begins : BeginsText len xs) → length xs ≡ len → modified_utf8 begins.units ≡ xs
begins_whole len xs begins whole =
    let none : begins.rest ≡ [] = nil_from_length begins.rest (omega (arith, begins.has_length, ap length begins.spelled, length-append xs begins.rest)) in
    begins.spelled ∙ ap (λ ys. xs ++ ys) none ∙ append-nil xs

-- ---- faults

-- no text begins with bytes that hold a fault
pub no_text : (len : ℕ) (before bytes : List ℕ) (accepted : ℕ) → FaultsAfter len before bytes accepted → BeginsText len (before ++ bytes) → ⊥
no_text len before bytes accepted faults begins =
    let split : before ++ bytes ≡ (before ++ take (accepted + 1) bytes) ++ drop (accepted + 1) bytes =
    ap (λ xs. before ++ xs) (sym (take-append-drop (accepted + 1) bytes)) ∙ sym (append_assoc before (take (accepted + 1) bytes) (drop (accepted + 1) bytes)) in
    faults.fault (begins_front len (before ++ take (accepted + 1) bytes) (drop (accepted + 1) bytes) (subst (BeginsText len) split begins))
