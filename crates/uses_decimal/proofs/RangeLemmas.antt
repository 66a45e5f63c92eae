-- Decimals around a size, and which of them read back.
use Rattle.std.proofs.Common.{◌≡◌, ◌<◌, ◌≤◌, ℕ, suc, ◌+◌, ◌-◌, ◌*◌, ◌^◌, ◌/◌, ◌∙◌, ap, refl, ◌&&◌, Bool, true, false, if◌then◌else◌, arith}
use Rattle.std.proofs.lemmas.Bool.Decides.{nat_tests}
use Rattle.std.proofs.lemmas.Nat.{mul-le}
use Rattle.std.proofs.Math.Nat.{div-mul-le_self, lt-div-mul-add, one-le-pow, suc-mul, mul-pos, mul-le-mul_left}
use Rattle.jser_decimal.specs.Bigs.{below}
use Rattle.jser_decimal.specs.Shortest.{Range, quarter_at, range_at, reads_back}

-- ---- comparisons

pub below_le : (ties : Bool) (a b : ℕ) → below ties a b ≡ true → a ≤ b
below_le true a b e = grind (arith, nat_tests, e)
below_le false a b e = grind (arith, nat_tests, e)

pub lt_below : (ties : Bool) (a b : ℕ) → a < b → below ties a b ≡ true
lt_below true a b e = grind (arith, nat_tests, e)
lt_below false a b e = grind (arith, nat_tests, e)

pub below_down : (ties : Bool) (a b c : ℕ) → below ties b c ≡ true → a ≤ b → below ties a c ≡ true
below_down true a b c e le = grind (arith, nat_tests, e, le)
below_down false a b c e le = grind (arith, nat_tests, e, le)

pub below_up : (ties : Bool) (a b c : ℕ) → below ties a b ≡ true → b ≤ c → below ties a c ≡ true
below_up true a b c e le = grind (arith, nat_tests, e, le)
below_up false a b c e le = grind (arith, nat_tests, e, le)

pub left_true : (x y : Bool) → (x && y) ≡ true → x ≡ true
left_true true y e = refl
left_true false y e = e

pub right_true : (x y : Bool) → (x && y) ≡ true → y ≡ true
right_true true y e = e
right_true false y e = absurd (let no : false ≡ true = e in grind (arith, no))

pub both_true : (x y : Bool) → x ≡ true → y ≡ true → (x && y) ≡ true
both_true x y one two = ap (λ b. b && y) one ∙ two

-- how far parts are from the size
abbrev pub far : (middle parts : ℕ) → ℕ
far middle parts = (middle - parts) + (parts - middle)

-- so many parts read back
abbrev pub inside : Range → (parts : ℕ) → Bool
inside range parts = below range.ends range.low parts && below range.ends parts range.high

pub le_on : (a b c : ℕ) → a ≤ b → b ≤ c → a ≤ c
le_on a b c x y = omega (arith, x, y)

pub squeezed : (a b c : ℕ) → a ≤ b → b ≤ c → a ≡ c → (a ≡ b) × (b ≡ c)
squeezed a b c x y e = (omega (arith, x, y, e), omega (arith, x, y, e))

-- ---- the size lies between two decimals

pub power_is_some : (power : ℕ) → 0 < 10 ^ power
power_is_some power = one-le-pow power 10 (omega arith)

-- the size lies between the points half way
pub record IsOrdered (range : Range) : Type 0 where
  pub unit : 0 < range.unit
  pub low : range.low ≤ range.middle
  pub high : range.middle < range.high

pub is_ordered : (least place : ℕ) (size : _) → IsOrdered (range_at least place size)
is_ordered least place size =
    let quarter = quarter_at size.power in
    let some : 0 < quarter = mul-pos (one-le-pow size.power 2 (omega arith)) (power_is_some 344) in
    let less : (k : ℕ) → size.significand * 4 - k ≤ size.significand * 4 = λ k. omega arith in
    let wide : quarter * (size.significand * 4 + 2) ≡ quarter * (size.significand * 4) + quarter * 2 = grind arith in
    record {
      unit = mul-pos (one-le-pow (least + 2) 2 (omega arith)) (power_is_some place);
      low = mul-le-mul_left quarter (less (if size.at_edge then 1 else 2));
      high = omega (arith, some, wide);
    }

-- between so many steps and one more
pub record IsBetween (range : Range) (step steps : ℕ) : Type 0 where
  pub here : steps * step * range.unit ≤ range.middle
  pub there : range.middle < (steps + 1) * step * range.unit

pub between : (range : Range) (step : ℕ) → 0 < range.unit → 0 < step → IsBetween range step (range.middle / range.unit / step)
between range step some some' =
    let all = range.middle / range.unit in
    let steps = all / step in
    let a : all * range.unit ≤ range.middle = div-mul-le_self range.middle range.unit in
    let b : range.middle < all * range.unit + range.unit = lt-div-mul-add some in
    let c : steps * step ≤ all = div-mul-le_self all step in
    let d : all < steps * step + step = lt-div-mul-add some' in
    let e : (steps + 1) * step ≡ steps * step + step = grind arith in
    let f : suc all * range.unit ≤ (steps + 1) * step * range.unit = mul-le (suc all) range.unit ((steps + 1) * step) range.unit (omega (arith, d, e)) (omega arith) in
    let g : suc all * range.unit ≡ all * range.unit + range.unit = suc-mul all range.unit in
    let h : steps * step * range.unit ≤ all * range.unit = mul-le (steps * step) range.unit all range.unit c (omega arith) in
    record { here = omega (arith, a, h); there = omega (arith, b, f, g) }

-- fewer steps, fewer parts
fewer_parts : (range : Range) (step one other : ℕ) → one ≤ other → one * step * range.unit ≤ other * step * range.unit
fewer_parts range step one other le = mul-le (one * step) range.unit (other * step) range.unit (mul-le one step other step le (omega arith)) (omega arith)

-- a decimal below the size reads back, so the nearest one below it does
pub here_back : (range : Range) (step steps count : ℕ) → IsOrdered range → IsBetween range step steps → count ≤ steps → reads_back range (count * step) ≡ true
    → reads_back range (steps * step) ≡ true
here_back range step steps count order is few back =
    let parts = steps * step * range.unit in
    let low = left_true (below range.ends range.low (count * step * range.unit)) (below range.ends (count * step * range.unit) range.high) back in
    let high = order.high in
    let here = is.here in
    both_true (below range.ends range.low parts) (below range.ends parts range.high)
    (below_up range.ends range.low (count * step * range.unit) parts low (fewer_parts range step count steps few))
    (lt_below range.ends parts range.high (omega (arith, here, high)))

pub there_back : (range : Range) (step steps count : ℕ) → IsOrdered range → IsBetween range step steps → steps + 1 ≤ count → reads_back range (count * step) ≡ true
    → reads_back range ((steps + 1) * step) ≡ true
there_back range step steps count order is few back =
    let parts = (steps + 1) * step * range.unit in
    let high = right_true (below range.ends range.low (count * step * range.unit)) (below range.ends (count * step * range.unit) range.high) back in
    let low = order.low in
    let there = is.there in
    both_true (below range.ends range.low parts) (below range.ends parts range.high)
    (lt_below range.ends range.low parts (omega (arith, there, low)))
    (below_down range.ends parts (count * step * range.unit) range.high high (fewer_parts range step (steps + 1) count few))
