-- The place: the size has 17 digits of its units, and these are enough.
use Rattle.std.proofs.Common.{◌≡◌, ◌<◌, ◌≤◌, ℕ, suc, zero, ◌+◌, ◌-◌, ◌*◌, ◌^◌, ◌∙◌, ap, sym, refl, subst, Bool, true, false, if◌then◌else◌, arith}
use Rattle.std.specs.Prelude.{nat_lt}
use Rattle.std.proofs.lemmas.Bool.Decides.{nat_tests}
use Rattle.std.proofs.lemmas.Nat.{mul-le, pow-add}
use Rattle.std.proofs.Math.Nat.{one-le-pow, pow-le-pow_right, mul-le-mul_left, mul_assoc}
use Rattle.jser_decimal.proofs.ShortestLemmas.{far_enough_there}
use Rattle.jser_decimal.specs.Shortest.{place_from, quarter_at, unit_at}

-- ---- the place

from_le : (least middle fuel from : ℕ) → from ≤ place_from least middle fuel from
unfolding place_from
from_le least middle zero from = omega arith
from_le least middle (suc fuel) from = go (nat_lt middle (10 ^ 17 * unit_at least from)) (from_le least middle fuel (from + 1))
  where
    go : (x : Bool) → from + 1 ≤ place_from least middle fuel (from + 1) → from ≤ (if x then from else place_from least middle fuel (from + 1))
    go true later = omega arith
    go false later = omega (arith, later)

-- at the place before it the size has more than 17 digits
abbrev MoreBefore : (least middle place : ℕ) → Type 0
MoreBefore least middle place = 10 ^ 17 * unit_at least (place - 1) ≤ middle

before_next : (least middle from place : ℕ) (x : Bool) → nat_lt middle (10 ^ 17 * unit_at least from) ≡ x → from + 1 ≤ place → (from + 1 < place → MoreBefore least middle place)
    → from < (if x then from else place) → MoreBefore least middle (if x then from else place)
before_next least middle from place true e order later less = absurd (omega (arith, less))
before_next least middle from place false e order later less = go (nat_lt (from + 1) place) refl
  where
    go : (y : Bool) → nat_lt (from + 1) place ≡ y → MoreBefore least middle place
    go true f = later (grind (arith, nat_tests, f))
    go false f = subst (λ p. 10 ^ 17 * unit_at least p ≤ middle) (let z : from ≡ place - 1 = grind (arith, nat_tests, f, order) in z) (grind (arith, nat_tests, e))

before : (least middle fuel from : ℕ) → from < place_from least middle fuel from → MoreBefore least middle (place_from least middle fuel from)
unfolding place_from
before least middle zero from less = absurd (omega (arith, less))
before least middle (suc fuel) from less =
    before_next least middle from (place_from least middle fuel (from + 1)) (nat_lt middle (10 ^ 17 * unit_at least from)) refl
    (from_le least middle fuel (from + 1)) (before least middle fuel (from + 1)) less

-- ---- 17 digits

-- the size has at most 17 digits at the place that is found, if it has at the last one
within_from : (least middle fuel from : ℕ) → middle < 10 ^ 17 * unit_at least (from + fuel) → middle < 10 ^ 17 * unit_at least (place_from least middle fuel from)
unfolding place_from
within_from least middle zero from last = subst (λ p. middle < 10 ^ 17 * unit_at least p) (omega arith) last
within_from least middle (suc fuel) from last =
    go (nat_lt middle (10 ^ 17 * unit_at least from)) refl (within_from least middle fuel (from + 1) (subst (λ p. middle < 10 ^ 17 * unit_at least p) (omega arith) last))
  where
    go : (x : Bool) → nat_lt middle (10 ^ 17 * unit_at least from) ≡ x → middle < 10 ^ 17 * unit_at least (place_from least middle fuel (from + 1))
        → middle < 10 ^ 17 * unit_at least (if x then from else place_from least middle fuel (from + 1))
    go true e later = grind (arith, nat_tests, e)
    go false e later = later

-- so many units are in a size of this power
abbrev pub middle_at : (power significand : ℕ) → ℕ
middle_at power significand = quarter_at power * (significand * 4)

abbrev pub place_of : (least power significand : ℕ) → ℕ
place_of least power significand = place_from least (middle_at power significand) 700 0

pub at_most : (least power significand : ℕ) → significand < 2 ^ 53 → power ≤ least + 1000
    → middle_at power significand < 10 ^ 17 * unit_at least (place_of least power significand)
at_most least power significand few within =
    within_from least (middle_at power significand) 700 0
    (far_enough_there least power significand 700 (omega arith) (omega arith) few within)

-- the least size has more digits of the least units there are
many : (x y z q s : ℕ) → x ≤ y → 10 ^ 17 * y ≤ z → z ≤ q → 0 < s → 10 ^ 17 * (x * 1) ≤ q * (s * 4)
many x y z q s a b c some = let d : q * 4 ≤ q * (s * 4) = mul-le-mul_left q (omega (arith, some)) in omega (arith, a, b, c, d)

first_has_more : (least power significand : ℕ) → least ≤ 1074 → 0 < significand → 10 ^ 17 * unit_at least 0 ≤ middle_at power significand
first_has_more least power significand few some =
    many (2 ^ (least + 2)) (2 ^ 1076) (10 ^ 344) (quarter_at power) significand (pow-le-pow_right {n = 2} (omega arith) (let le : least + 2 ≤ 1076 = omega (arith, few) in le)) (omega arith)
    (wide (2 ^ power) (10 ^ 344) (one-le-pow power 2 (omega arith))) some
  where
    wide : (x y : ℕ) → 0 < x → y ≤ x * y
    wide x y some = let a : 1 * y ≤ x * y = mul-le 1 y x y some (omega arith) in omega (arith, a)

ten_less : (least middle place : ℕ) → 0 < place → MoreBefore least middle place → 10 ^ 16 * unit_at least place ≤ middle
ten_less least middle zero some before = absurd (omega (arith, some))
ten_less least middle (suc place) some before =
    let b : 10 ^ 17 * unit_at least place ≤ middle = subst (λ p. 10 ^ 17 * unit_at least p ≤ middle) (omega arith) before in
    ten (2 ^ (least + 2)) (10 ^ place) (10 ^ suc place) middle (ap (λ n. 10 ^ n) (omega arith) ∙ pow-add 10 place 1) b
  where
    ten : (x y z middle : ℕ) → z ≡ y * 10 → 10 ^ 17 * (x * y) ≤ middle → 10 ^ 16 * (x * z) ≤ middle
    ten x y z middle e le = let a : x * z ≡ x * y * 10 = ap (λ n. x * n) e ∙ sym (mul_assoc x y 10) in omega (arith, a, le)

pub at_least : (least power significand : ℕ) → least ≤ 1074 → 0 < significand → significand < 2 ^ 53 → power ≤ least + 1000
    → 10 ^ 16 * unit_at least (place_of least power significand) ≤ middle_at power significand
at_least least power significand small some few within =
    at (place_of least power significand) (at_most least power significand few within) (before least (middle_at power significand) 700 0)
  where
    at : (place : ℕ) → middle_at power significand < 10 ^ 17 * unit_at least place → (0 < place → MoreBefore least (middle_at power significand) place)
        → 10 ^ 16 * unit_at least place ≤ middle_at power significand
    at zero most before = absurd (over (10 ^ 17 * unit_at least 0) (middle_at power significand) (first_has_more least power significand small some) most)
      where
        over : (x y : ℕ) → x ≤ y → y < x → ⊥
        over x y a b = omega (arith, a, b)
    at (suc place) most before = ten_less least (middle_at power significand) (suc place) (omega arith) (before (omega arith))

-- it is less than what lies between the points half way
pub narrow : (q s unit : ℕ) (edge : Bool) → 0 < q → 0 < s → s < 2 ^ 53 → (edge ≡ true → s ≤ 2 ^ 52) → 10 ^ 16 * unit ≤ q * (s * 4)
    → q * (s * 4 - (if edge then 1 else 2)) + unit < q * (s * 4 + 2)
narrow q s unit true some some' few edge is =
    let x = s * 4 - 1 in
    let a : s * 4 ≡ x + 1 = omega (arith, some') in
    let b : q * (s * 4) ≡ q * x + q = ap (λ n. q * n) a ∙ (let z : q * (x + 1) ≡ q * x + q = grind arith in z) in
    let c : q * (s * 4 + 2) ≡ q * (s * 4) + q * 2 = grind arith in
    let d : q * (s * 4) ≤ q * 2 ^ 54 = mul-le-mul_left q (let le = edge refl in omega (arith, le)) in
    omega (arith, is, b, c, d, some)
narrow q s unit false some some' few edge is =
    let x = s * 4 - 2 in
    let a : s * 4 ≡ x + 2 = omega (arith, some') in
    let b : q * (s * 4) ≡ q * x + q * 2 = ap (λ n. q * n) a ∙ (let z : q * (x + 2) ≡ q * x + q * 2 = grind arith in z) in
    let c : q * (s * 4 + 2) ≡ q * (s * 4) + q * 2 = grind arith in
    let d : q * (s * 4) ≤ q * 2 ^ 55 = mul-le-mul_left q (omega (arith, few)) in
    omega (arith, is, b, c, d, some)
