-- The table of bytes that may stand, and the texts: each byte may stand exactly where the bytes are a text's.
use Rattle.std.proofs.Common.{◌≡◌, ℕ, zero, suc, ◌+◌, ◌-◌, ◌*◌, ◌<◌, ◌≤◌, Bool, true, false, ◌&&◌, ◌||◌, not, List, [], ◌∷◌, ◌++◌, length, refl, sym, ◌∙◌, ap, ap₂, arith, nat_lt, nat_le, nat_eq, ◌⊎◌, inl, inr, length-append, leb-true, true≢false}
use Rattle.std.proofs.lemmas.Bool.{cases_eq}
use Rattle.std.proofs.lemmas.Bool.Decides.{nat_tests}
use Rattle.jser_prim.specs.ModifiedUtf8.{unit_spelling, modified_utf8, IsUnits}
use Rattle.jser_prim.specs.Texts.{BeginsText}
use Rattle.jser_prim.proofs.Units.{form_of, spelling_one, spelling_two, spelling_three}
use Rattle.jser_prim.proofs.TextLemmas.{units_head, units_tail, units_cons}
use Rattle.jser_grammar.proofs.Bools.{and_left, and_right}
use Rattle.jser_verdict.specs.TextsSoFar.{Spot, unit_start, second_after_c0, second_after_e0, second_of_three, last_of_unit, is_tail, may_stand, less_one, spot_after, all_stand, text_length, text_bytes, has_wrong_byte}
use Rattle.jser_verdict.specs.TokenLaws.{BadTextIsExact}

-- ---- a text's bytes may stand

start_one : (left b : ℕ) → 1 ≤ b → b < 0x80 → (may_stand left unit_start b ≡ true) × (spot_after unit_start b ≡ unit_start)
start_one left b lo hi = (grind (arith, nat_tests), grind (arith, nat_tests))

start_c0 : (left : ℕ) → 2 ≤ left → (may_stand left unit_start 0xC0 ≡ true)
start_c0 left h = grind (arith, nat_tests)

start_two : (left b : ℕ) → 2 ≤ left → 0xC2 ≤ b → b < 0xE0
    → (may_stand left unit_start b ≡ true) × (spot_after unit_start b ≡ last_of_unit)
start_two left b h lo hi = (grind (arith, nat_tests), grind (arith, nat_tests))

start_e0 : (left : ℕ) → 3 ≤ left → (may_stand left unit_start 0xE0 ≡ true)
start_e0 left h = grind (arith, nat_tests)

start_three : (left b : ℕ) → 3 ≤ left → 0xE1 ≤ b → b < 0xF0
    → (may_stand left unit_start b ≡ true) × (spot_after unit_start b ≡ second_of_three)
start_three left b h lo hi = (grind (arith, nat_tests), grind (arith, nat_tests))

tail_byte : (b : ℕ) → 0x80 ≤ b → b < 0xC0 → is_tail b ≡ true
tail_byte b lo hi = grind (arith, nat_tests)

e0_byte : (b : ℕ) → 0xA0 ≤ b → b < 0xC0 → (nat_le 0xA0 b && nat_lt b 0xC0) ≡ true
e0_byte b lo hi = grind (arith, nat_tests)

-- one step
step_stands : (left : ℕ) (s t : Spot) (b : ℕ) (bs : List ℕ) → may_stand left s b ≡ true → spot_after s b ≡ t
    → all_stand left s (b ∷ bs) ≡ all_stand (less_one left) t bs
step_stands left s t b bs h e = ap (λ x. x && all_stand (less_one left) (spot_after s b) bs) h ∙ ap (λ x. all_stand (less_one left) x bs) e

unit_stands : (u k n : ℕ) (rest : List ℕ) → u < 0x10000 → n ≡ length (unit_spelling u) + k
    → all_stand n unit_start (unit_spelling u ++ rest) ≡ all_stand k unit_start rest
unit_stands u k n rest fits en = elim (form_of u fits) [
  | inl one ↦
      let x = start_one (suc k) u one.above one.below in
      let l : n ≡ suc k = omega (arith, en, ap length one.spelled) in
      rw (one.spelled, l) (step_stands (suc k) unit_start unit_start u rest x.0 x.1)
  | inr more ↦ elim more [
    | inl two ↦
        let l : n ≡ suc (suc k) = omega (arith, en, ap length two.spelled) in
        rw (two.spelled, l) (two_stand two.high two.low two.high_fits two.low_fits two.not_ascii two.only_null)
    | inr three ↦
        let l : n ≡ suc (suc (suc k)) = omega (arith, en, ap length three.spelled) in
        rw (three.spelled, l) (three_stand three.high three.middle three.low three.high_fits three.middle_fits three.low_fits three.not_shorter)
  ]
]
  where
    two_stand : (h l : ℕ) → h < 32 → l < 64 → (h ≡ 1 → ⊥) → (h ≡ 0 → l ≡ 0)
        → all_stand (suc (suc k)) unit_start ((0xC0 + h) ∷ (0x80 + l) ∷ rest) ≡ all_stand k unit_start rest
    two_stand h l hf lf na on = elim (cases_eq h 0) [
      | inl z ↦
          let zl = on z in
          rw (z, zl) (step_stands (suc (suc k)) unit_start second_after_c0 0xC0 (0x80 ∷ rest) (start_c0 (suc (suc k)) (omega arith)) refl
          ∙ step_stands (suc k) second_after_c0 unit_start 0x80 rest refl refl)
      | inr nz ↦
          let lo : 2 ≤ h = omega (arith, na) in
          let x = start_two (suc (suc k)) (0xC0 + h) (omega arith) (omega arith) (omega arith) in
          step_stands (suc (suc k)) unit_start last_of_unit (0xC0 + h) ((0x80 + l) ∷ rest) x.0 x.1
          ∙ step_stands (suc k) last_of_unit unit_start (0x80 + l) rest (tail_byte (0x80 + l) (omega arith) (omega arith)) refl
    ]

    three_stand : (h m l : ℕ) → h < 16 → m < 64 → l < 64 → 32 ≤ 64 * h + m
        → all_stand (suc (suc (suc k))) unit_start ((0xE0 + h) ∷ (0x80 + m) ∷ (0x80 + l) ∷ rest) ≡ all_stand k unit_start rest
    three_stand h m l hf mf lf ns = elim (cases_eq h 0) [
      | inl z ↦
          let lo : 32 ≤ m = omega arith in
          rw z (step_stands (suc (suc (suc k))) unit_start second_after_e0 0xE0 ((0x80 + m) ∷ (0x80 + l) ∷ rest)
          (start_e0 (suc (suc (suc k))) (omega arith)) refl
          ∙ step_stands (suc (suc k)) second_after_e0 last_of_unit (0x80 + m) ((0x80 + l) ∷ rest)
          (e0_byte (0x80 + m) (omega arith) (omega arith)) refl
          ∙ step_stands (suc k) last_of_unit unit_start (0x80 + l) rest (tail_byte (0x80 + l) (omega arith) (omega arith)) refl)
      | inr nz ↦
          let x = start_three (suc (suc (suc k))) (0xE0 + h) (omega arith) (omega arith) (omega arith) in
          step_stands (suc (suc (suc k))) unit_start second_of_three (0xE0 + h) ((0x80 + m) ∷ (0x80 + l) ∷ rest) x.0 x.1
          ∙ step_stands (suc (suc k)) second_of_three last_of_unit (0x80 + m) ((0x80 + l) ∷ rest)
          (tail_byte (0x80 + m) (omega arith) (omega arith)) refl
          ∙ step_stands (suc k) last_of_unit unit_start (0x80 + l) rest (tail_byte (0x80 + l) (omega arith) (omega arith)) refl
    ]

pub text_stands : (us : List ℕ) → IsUnits us → all_stand (length (modified_utf8 us)) unit_start (modified_utf8 us) ≡ true
text_stands [] h = refl
text_stands (u ∷ us) h =
    unit_stands u (length (modified_utf8 us)) (length (unit_spelling u ++ modified_utf8 us)) (modified_utf8 us) (units_head u us h)
    (length-append (unit_spelling u) (modified_utf8 us)) ∙ text_stands us (units_tail u us h)

pub front_stands : (a b : List ℕ) (n : ℕ) (s : Spot) → all_stand n s (a ++ b) ≡ true → all_stand n s a ≡ true
front_stands [] b n s h = refl
front_stands (x ∷ a) b n s h =
    let l : may_stand n s x ≡ true = and_left (may_stand n s x) (all_stand (less_one n) (spot_after s x) (a ++ b)) h in
    let r = and_right (may_stand n s x) (all_stand (less_one n) (spot_after s x) (a ++ b)) h in
    step_stands n s (spot_after s x) x a l refl ∙ front_stands a b (less_one n) (spot_after s x) r

-- ---- bytes that may stand are a text's

record Text (bytes : List ℕ) : Type 0 where
  pub units : List ℕ
  pub are_units : IsUnits units
  pub spelled : modified_utf8 units ≡ bytes

one_more : (u : ℕ) (xs bytes rest : List ℕ) → u < 0x10000 → unit_spelling u ≡ xs → bytes ≡ xs ++ rest → Text rest → Text bytes
one_more u xs bytes rest fits e eb t = record {
  units = u ∷ t.units;
  are_units = units_cons u t.units fits t.are_units;
  spelled = ap₂ (λ a b. a ++ b) e t.spelled ∙ sym eb;
}

-- what still comes behind the bytes of a unit
record Last (bytes : List ℕ) : Type 0 where
  byte : ℕ
  rest : List ℕ
  is : bytes ≡ byte ∷ rest
  lo : 0x80 ≤ byte
  hi : byte < 0xC0
  text : Text rest

record Middle (least : ℕ) (bytes : List ℕ) : Type 0 where
  byte : ℕ
  rest : List ℕ
  is : bytes ≡ byte ∷ rest
  lo : least ≤ byte
  hi : byte < 0xC0
  last : Last rest

record AfterC0 (bytes : List ℕ) : Type 0 where
  rest : List ℕ
  is : bytes ≡ 0x80 ∷ rest
  text : Text rest

abbrev Rest : Spot → List ℕ → Type 0
Rest unit_start bytes = Text bytes
Rest second_after_c0 bytes = AfterC0 bytes
Rest second_after_e0 bytes = Middle 0xA0 bytes
Rest second_of_three bytes = Middle 0x80 bytes
Rest last_of_unit bytes = Last bytes

abbrev needs : Spot → ℕ
needs unit_start = 0
needs second_after_c0 = 1
needs second_after_e0 = 2
needs second_of_three = 2
needs last_of_unit = 1

-- the first byte of a unit, by its tests
data First (left b : ℕ) : Type 0 where
  is_one : 1 ≤ b → b < 0x80 → First left b
  is_c0 : 2 ≤ left → b ≡ 0xC0 → First left b
  is_two : 2 ≤ left → 0xC2 ≤ b → b < 0xE0 → First left b
  is_e0 : 3 ≤ left → b ≡ 0xE0 → First left b
  is_three : 3 ≤ left → 0xE1 ≤ b → b < 0xF0 → First left b

or_either : (a b : Bool) → (a || b) ≡ true → (a ≡ true) ⊎ (b ≡ true)
or_either true b h = inl refl
or_either false b h = inr h

is_equal : (a b : ℕ) → nat_eq a b ≡ true → a ≡ b
is_equal a b h = grind (arith, nat_tests)

first_of : (left b : ℕ) → may_stand left unit_start b ≡ true → First left b
first_of left b h =
    elim (or_either (nat_le 1 b && nat_lt b 0x80) ((nat_le 2 left && (nat_eq b 0xC0 || (nat_le 0xC2 b && nat_lt b 0xE0))) || (nat_le 3 left && (nat_le 0xE0 b && nat_lt b 0xF0))) h) [
      | inl x ↦
          is_one (leb-true 1 b (and_left (nat_le 1 b) (nat_lt b 0x80) x)) (leb-true (suc b) 0x80 (and_right (nat_le 1 b) (nat_lt b 0x80) x))
      | inr y ↦ elim (or_either (nat_le 2 left && (nat_eq b 0xC0 || (nat_le 0xC2 b && nat_lt b 0xE0))) (nat_le 3 left && (nat_le 0xE0 b && nat_lt b 0xF0)) y) [
        | inl z ↦
            let r : 2 ≤ left = leb-true 2 left (and_left (nat_le 2 left) (nat_eq b 0xC0 || (nat_le 0xC2 b && nat_lt b 0xE0)) z) in
            elim (or_either (nat_eq b 0xC0) (nat_le 0xC2 b && nat_lt b 0xE0) (and_right (nat_le 2 left) (nat_eq b 0xC0 || (nat_le 0xC2 b && nat_lt b 0xE0)) z)) [
              | inl e ↦ is_c0 r (is_equal b 0xC0 e)
              | inr w ↦
                  is_two r (leb-true 0xC2 b (and_left (nat_le 0xC2 b) (nat_lt b 0xE0) w)) (leb-true (suc b) 0xE0 (and_right (nat_le 0xC2 b) (nat_lt b 0xE0) w))
            ]
        | inr z ↦
            let r : 3 ≤ left = leb-true 3 left (and_left (nat_le 3 left) (nat_le 0xE0 b && nat_lt b 0xF0) z) in
            let w = and_right (nat_le 3 left) (nat_le 0xE0 b && nat_lt b 0xF0) z in
            let lo : 0xE0 ≤ b = leb-true 0xE0 b (and_left (nat_le 0xE0 b) (nat_lt b 0xF0) w) in
            let hi : b < 0xF0 = leb-true (suc b) 0xF0 (and_right (nat_le 0xE0 b) (nat_lt b 0xF0) w) in
            elim (cases_eq b 0xE0) [
              | inl e ↦ is_e0 r e
              | inr ne ↦ is_three r (omega (arith, ne)) hi
            ]
      ]
    ]

rest_first : (b : ℕ) (bs : List ℕ) → First (suc (length bs)) b
    → ((s : Spot) → all_stand (length bs) s bs ≡ true → needs s ≤ length bs → Rest s bs)
    → all_stand (length bs) (spot_after unit_start b) bs ≡ true → Text (b ∷ bs)
rest_first b bs (is_one lo hi) ih h =
    let t = ih unit_start (rw (← (start_one 1 b lo hi).1) h) (omega arith) in
    one_more b (b ∷ []) (b ∷ bs) bs (omega arith) (spelling_one b lo hi) refl t
rest_first b bs (is_c0 r e) ih h =
    let x = ih second_after_c0 (rw e at h) (omega arith) in
    one_more 0 (0xC0 ∷ 0x80 ∷ []) (b ∷ bs) x.rest (omega arith) (spelling_two 0 0 0 refl (omega arith) (omega arith) (omega arith) (λ z. refl))
    (ap₂ (λ p q. p ∷ q) e x.is) x.text
rest_first b bs (is_two r lo hi) ih h =
    let x = ih last_of_unit (rw (← (start_two 2 b (omega arith) lo hi).1) h) (omega arith) in
    let high : ℕ = b - 0xC0 in
    let low : ℕ = x.byte - 0x80 in
    let eb : 0xC0 + high ≡ b = omega arith in
    let xlo = x.lo in
    let xhi = x.hi in
    let ec : 0x80 + low ≡ x.byte = omega arith in
    one_more (64 * high + low) ((0xC0 + high) ∷ (0x80 + low) ∷ []) (b ∷ bs) x.rest (omega arith)
    (spelling_two high low (64 * high + low) refl (omega arith) (omega arith) (λ z. omega arith) (λ z. absurd (omega arith)))
    (rw (eb, ec) (ap (λ q. b ∷ q) x.is)) x.text
rest_first b bs (is_e0 r e) ih h =
    let x = ih second_after_e0 (rw e at h) (omega arith) in
    let y = x.last in
    let xlo = x.lo in
    let xhi = x.hi in
    let ylo = y.lo in
    let yhi = y.hi in
    let middle : ℕ = x.byte - 0x80 in
    let low : ℕ = y.byte - 0x80 in
    let ec : 0x80 + middle ≡ x.byte = omega arith in
    let ed : 0x80 + low ≡ y.byte = omega arith in
    one_more (64 * middle + low) (0xE0 ∷ (0x80 + middle) ∷ (0x80 + low) ∷ []) (b ∷ bs) y.rest (omega arith)
    (spelling_three 0 middle low (64 * middle + low) (omega arith) (omega arith) (omega arith) (omega arith) (omega arith))
    (rw (ec, ed) (ap₂ (λ p q. p ∷ q) e (x.is ∙ ap (λ q. x.byte ∷ q) y.is))) y.text
rest_first b bs (is_three r lo hi) ih h =
    let x = ih second_of_three (rw (← (start_three 3 b (omega arith) lo hi).1) h) (omega arith) in
    let y = x.last in
    let xlo = x.lo in
    let xhi = x.hi in
    let ylo = y.lo in
    let yhi = y.hi in
    let high : ℕ = b - 0xE0 in
    let middle : ℕ = x.byte - 0x80 in
    let low : ℕ = y.byte - 0x80 in
    let eb : 0xE0 + high ≡ b = omega arith in
    let ec : 0x80 + middle ≡ x.byte = omega arith in
    let ed : 0x80 + low ≡ y.byte = omega arith in
    one_more (4096 * high + 64 * middle + low) ((0xE0 + high) ∷ (0x80 + middle) ∷ (0x80 + low) ∷ []) (b ∷ bs) y.rest (omega arith)
    (spelling_three high middle low (4096 * high + 64 * middle + low) refl (omega arith) (omega arith) (omega arith) (omega arith))
    (rw (eb, ec, ed) (ap (λ q. b ∷ q) (x.is ∙ ap (λ q. x.byte ∷ q) y.is))) y.text

rest_of : (bs : List ℕ) (s : Spot) → all_stand (length bs) s bs ≡ true → needs s ≤ length bs → Rest s bs
rest_of [] unit_start h n = record { units = []; are_units = refl; spelled = refl }
rest_of [] second_after_c0 h n = absurd (omega arith)
rest_of [] second_after_e0 h n = absurd (omega arith)
rest_of [] second_of_three h n = absurd (omega arith)
rest_of [] last_of_unit h n = absurd (omega arith)
rest_of (b ∷ bs) unit_start h n =
    let m = and_left (may_stand (suc (length bs)) unit_start b) (all_stand (length bs) (spot_after unit_start b) bs) h in
    let r = and_right (may_stand (suc (length bs)) unit_start b) (all_stand (length bs) (spot_after unit_start b) bs) h in
    rest_first b bs (first_of (suc (length bs)) b m) (λ s a k. rest_of bs s a k) r
rest_of (b ∷ bs) second_after_c0 h n =
    let m = and_left (nat_eq b 0x80) (all_stand (length bs) unit_start bs) h in
    let r = and_right (nat_eq b 0x80) (all_stand (length bs) unit_start bs) h in
    record { rest = bs; is = ap (λ x. x ∷ bs) (is_equal b 0x80 m); text = rest_of bs unit_start r (omega arith) }
rest_of (b ∷ bs) second_after_e0 h n =
    let m = and_left (nat_le 0xA0 b && nat_lt b 0xC0) (all_stand (length bs) last_of_unit bs) h in
    let r = and_right (nat_le 0xA0 b && nat_lt b 0xC0) (all_stand (length bs) last_of_unit bs) h in
    record {
      byte = b;
      rest = bs;
      is = refl;
      lo = leb-true 0xA0 b (and_left (nat_le 0xA0 b) (nat_lt b 0xC0) m);
      hi = leb-true (suc b) 0xC0 (and_right (nat_le 0xA0 b) (nat_lt b 0xC0) m);
      last = rest_of bs last_of_unit r (omega arith);
    }
rest_of (b ∷ bs) second_of_three h n =
    let m = and_left (is_tail b) (all_stand (length bs) last_of_unit bs) h in
    let r = and_right (is_tail b) (all_stand (length bs) last_of_unit bs) h in
    record {
      byte = b;
      rest = bs;
      is = refl;
      lo = leb-true 0x80 b (and_left (nat_le 0x80 b) (nat_lt b 0xC0) m);
      hi = leb-true (suc b) 0xC0 (and_right (nat_le 0x80 b) (nat_lt b 0xC0) m);
      last = rest_of bs last_of_unit r (omega arith);
    }
rest_of (b ∷ bs) last_of_unit h n =
    let m = and_left (is_tail b) (all_stand (length bs) unit_start bs) h in
    let r = and_right (is_tail b) (all_stand (length bs) unit_start bs) h in
    record {
      byte = b;
      rest = bs;
      is = refl;
      lo = leb-true 0x80 b (and_left (nat_le 0x80 b) (nat_lt b 0xC0) m);
      hi = leb-true (suc b) 0xC0 (and_right (nat_le 0x80 b) (nat_lt b 0xC0) m);
      text = rest_of bs unit_start r (omega arith);
    }

pub text_back : (bytes : List ℕ) → all_stand (length bytes) unit_start bytes ≡ true → (units : List ℕ) × IsUnits units
    × (modified_utf8 units ≡ bytes)
text_back bytes h = let t : Text bytes = rest_of bytes unit_start h (omega arith) in (t.units, t.are_units, t.spelled)

-- ---- each byte may stand exactly where some text of that length begins so

ascii : (n : ℕ) → (tail : List ℕ) × (all_stand n unit_start tail ≡ true) × (length tail ≡ n)
ascii zero = ([], refl, refl)
ascii (suc n) =
    let x = ascii n in
    (0x61 ∷ x.0, step_stands (suc n) unit_start unit_start 0x61 x.0 refl refl ∙ x.1, ap (λ k. suc k) x.2)

fill : (n : ℕ) (s : Spot) → needs s ≤ n → (tail : List ℕ) × (all_stand n s tail ≡ true) × (length tail ≡ n)
fill n unit_start h = ascii n
fill zero second_after_c0 h = absurd (omega arith)
fill (suc n) second_after_c0 h = let x = ascii n in (0x80 ∷ x.0, x.1, ap (λ k. suc k) x.2)
fill zero last_of_unit h = absurd (omega arith)
fill (suc n) last_of_unit h = let x = ascii n in (0x80 ∷ x.0, x.1, ap (λ k. suc k) x.2)
fill zero second_after_e0 h = absurd (omega arith)
fill (suc zero) second_after_e0 h = absurd (omega arith)
fill (suc (suc n)) second_after_e0 h = let x = ascii n in (0xA0 ∷ 0x80 ∷ x.0, x.1, ap (λ k. suc (suc k)) x.2)
fill zero second_of_three h = absurd (omega arith)
fill (suc zero) second_of_three h = absurd (omega arith)
fill (suc (suc n)) second_of_three h = let x = ascii n in (0x80 ∷ 0x80 ∷ x.0, x.1, ap (λ k. suc (suc k)) x.2)

needs_first : (n b : ℕ) → First (suc n) b → needs (spot_after unit_start b) ≤ n
needs_first n b (is_one lo hi) = rw (start_one 1 b lo hi).1 (omega arith)
needs_first n b (is_c0 r e) = rw e (omega arith)
needs_first n b (is_two r lo hi) = rw (start_two 2 b (omega arith) lo hi).1 (omega arith)
needs_first n b (is_e0 r e) = rw e (omega arith)
needs_first n b (is_three r lo hi) = rw (start_three 3 b (omega arith) lo hi).1 (omega arith)

needs_behind : (n : ℕ) (s : Spot) (b : ℕ) → may_stand (suc n) s b ≡ true → needs s ≤ suc n → needs (spot_after s b) ≤ n
needs_behind n unit_start b m h = needs_first n b (first_of (suc n) b m)
needs_behind n second_after_c0 b m h = omega arith
needs_behind n second_after_e0 b m h = omega arith
needs_behind n second_of_three b m h = omega arith
needs_behind n last_of_unit b m h = omega arith

completes : (bytes : List ℕ) (n : ℕ) (s : Spot) → all_stand n s bytes ≡ true → length bytes ≤ n → needs s ≤ n
    → (tail : List ℕ) × (all_stand n s (bytes ++ tail) ≡ true) × (length (bytes ++ tail) ≡ n)
completes [] n s h l k = fill n s k
completes (b ∷ bytes) zero s h l k = absurd (omega arith)
completes (b ∷ bytes) (suc n) s h l k =
    let m = and_left (may_stand (suc n) s b) (all_stand n (spot_after s b) bytes) h in
    let r = and_right (may_stand (suc n) s b) (all_stand n (spot_after s b) bytes) h in
    let x = completes bytes n (spot_after s b) r (omega arith) (needs_behind n s b m k) in
    (x.0, step_stands (suc n) s (spot_after s b) b (bytes ++ x.0) m refl ∙ x.1, ap (λ k. suc k) x.2)

stands_begin : (n : ℕ) (bytes : List ℕ) → length bytes ≤ n → all_stand n unit_start bytes ≡ true → BeginsText n bytes
stands_begin n bytes l h =
    let x = completes bytes n unit_start h l (omega arith) in
    let t = text_back (bytes ++ x.0) (ap (λ k. all_stand k unit_start (bytes ++ x.0)) x.2 ∙ x.1) in
    record { units = t.0; rest = x.0; are_units = t.1; spelled = t.2; has_length = ap length t.2 ∙ x.2 }

begin_stands : (n : ℕ) (bytes : List ℕ) → BeginsText n bytes → all_stand n unit_start bytes ≡ true
begin_stands n bytes b =
    front_stands bytes b.rest n unit_start
    (ap₂ (λ k z. all_stand k unit_start z) (sym b.has_length) (sym b.spelled) ∙ text_stands b.units b.are_units)

pub bad_text_is_exact : BadTextIsExact
bad_text_is_exact long p h l = (
  λ e. stands_begin (text_length long p) (text_bytes long p) l (stand (all_stand (text_length long p) unit_start (text_bytes long p)) (sym wrong ∙ e)),
  λ b. wrong ∙ ap not (begin_stands (text_length long p) (text_bytes long p) b),
)
  where
    wrong : has_wrong_byte long p ≡ not (all_stand (text_length long p) unit_start (text_bytes long p))
    wrong = ap (λ x. x && not (all_stand (text_length long p) unit_start (text_bytes long p))) h

    stand : (x : Bool) → not x ≡ false → x ≡ true
    stand true e = refl
    stand false e = absurd (true≢false e)
