-- Floats of bits that follow one another.
use Rattle.std.proofs.Common.{◌≡◌, ◌<◌, ◌≤◌, ℕ, suc, zero, ◌+◌, ◌-◌, ◌*◌, ◌^◌, ◌/◌, ◌%◌, ◌∙◌, ◌&&◌, not, ap, sym, refl, subst, Bool, true, false, if◌then◌else◌, arith}
use Rattle.std.specs.Prelude.{nat_lt, ◌==◌, ◌≢◌}
use Rattle.std.proofs.lemmas.Bool.Decides.{nat_tests}
use Rattle.std.proofs.lemmas.Nat.{div-add-mod', div-mul-add, mod-mul-add, mod_below, pow-add}
use Rattle.std.proofs.Math.Nat.{mul_assoc}
use Rattle.jser_decimal.specs.Bigs.{below}
use Rattle.jser_decimal.specs.Floats.{size_with}
use Rattle.jser_decimal.specs.Shortest.{Range, quarter_at, range_at, reads_back, unit_at}
use Rattle.uses_decimal.proofs.RangeLemmas.{IsOrdered, below_le, inside, is_ordered, left_true, right_true}
use Rattle.uses_decimal.specs.Laws.{NextMeets, ReadsBackAsOne, range_of}
use Rattle.uses_decimal.specs.Meaning.{MeetHalfWay}

abbrev range_with : (unit quarter significand : ℕ) (edge : Bool) → Range
range_with unit quarter significand edge = record {
  unit = unit;
  low = quarter * (significand * 4 - (if edge then 1 else 2));
  middle = quarter * (significand * 4);
  high = quarter * (significand * 4 + 2);
  ends = significand % 2 == 0;
}

even_next : (s : ℕ) → ((s + 1) % 2 == 0) ≡ not (s % 2 == 0)
even_next s = go (s % 2 == 0) refl
  where
    go : (x : Bool) → (s % 2 == 0) ≡ x → ((s + 1) % 2 == 0) ≡ not x
    go true e = let even : s % 2 ≡ 0 = grind (arith, nat_tests, e) in let odd : (s + 1) % 2 ≡ 1 = omega (arith, even) in grind (arith, nat_tests, odd)
    go false e = let odd : s % 2 ≢ 0 = grind (arith, nat_tests, e) in let even : (s + 1) % 2 ≡ 0 = omega (arith, odd) in grind (arith, nat_tests, even)

-- with one exponent
meets_same : (unit q s t : ℕ) (edge : Bool) → t ≡ s + 1 → MeetHalfWay (range_with unit q s edge) (range_with unit q t false)
meets_same unit q s t edge is = record {
  point = ap (λ n. q * n) (omega (arith, is));
  half =
      let e : q * (s * 4) + q * ((s + 1) * 4) ≡ 2 * (q * (s * 4 + 2)) = grind arith in
      ap (λ n. q * (s * 4) + q * (n * 4)) is ∙ e;
  either = ap (λ n. n % 2 == 0) is ∙ even_next s;
}

-- with the next one
meets_next : (unit q r s one : ℕ) (edge : Bool) → r ≡ q * 2 → s + 1 ≡ one * 2 → one % 2 ≡ 0 → MeetHalfWay (range_with unit q s edge) (range_with unit r one true)
meets_next unit q r s one edge twice is even = record {
  point = ap (λ n. n * (one * 4 - 1)) twice ∙ mul_assoc q 2 (one * 4 - 1) ∙ ap (λ n. q * n) (omega (arith, is));
  half =
      let a : r * (one * 4) ≡ q * (2 * (one * 4)) = ap (λ n. n * (one * 4)) twice ∙ mul_assoc q 2 (one * 4) in
      let b : 2 * (one * 4) ≡ (s + 1) * 4 = omega (arith, is) in
      let e : q * (s * 4) + q * ((s + 1) * 4) ≡ 2 * (q * (s * 4 + 2)) = grind arith in
      ap (λ n. q * (s * 4) + n) (a ∙ ap (λ n. q * n) b) ∙ e;
  either =
      let odd : s % 2 ≡ 1 = omega (arith, is) in
      let one_even : (one % 2 == 0) ≡ true = grind (arith, nat_tests, even) in
      let s_odd : (s % 2 == 0) ≡ false = grind (arith, nat_tests, odd) in
      one_even ∙ sym (ap not s_odd);
}

fraction_next : (least one exponent fraction place : ℕ) → MeetHalfWay (range_at least place (size_with one exponent fraction)) (range_at least place (size_with one exponent (fraction + 1)))
fraction_next least one exponent fraction place = go (exponent == 0) refl
  where
    none : (fraction + 1 == 0) ≡ false
    none = grind (arith, nat_tests)

    go : (x : Bool) → (exponent == 0) ≡ x → MeetHalfWay (range_at least place (size_with one exponent fraction)) (range_at least place (size_with one exponent (fraction + 1)))
    go true e = rw e (meets_same (unit_at least place) (quarter_at 0) fraction (fraction + 1) false refl)
    go false e = rw (e, none) (meets_same (unit_at least place) (quarter_at (exponent - 1)) (one + fraction) (one + (fraction + 1)) (fraction == 0 && nat_lt 1 exponent) (omega arith))

quarter_doubles : (exponent : ℕ) → (exponent == 0) ≡ false → quarter_at (exponent + 1 - 1) ≡ quarter_at (exponent - 1) * 2
quarter_doubles exponent e =
    let next : exponent + 1 - 1 ≡ exponent - 1 + 1 = grind (arith, nat_tests, e) in
    turned (2 ^ (exponent + 1 - 1)) (2 ^ (exponent - 1)) (10 ^ 344) (ap (λ n. 2 ^ n) next ∙ pow-add 2 (exponent - 1) 1)
  where
    turned : (x y t : ℕ) → x ≡ y * 2 → x * t ≡ y * t * 2
    turned x y t e = let z : y * 2 * t ≡ y * t * 2 = grind arith in ap (λ n. n * t) e ∙ z

exponent_next : (least one exponent fraction place : ℕ) → fraction + 1 ≡ one → one % 2 ≡ 0
    → MeetHalfWay (range_at least place (size_with one exponent fraction)) (range_at least place (size_with one (exponent + 1) 0))
exponent_next least one exponent fraction place last even = go (exponent == 0) refl
  where
    some : (exponent + 1 == 0) ≡ false
    some = grind (arith, nat_tests)

    go : (x : Bool) → (exponent == 0) ≡ x → MeetHalfWay (range_at least place (size_with one exponent fraction)) (range_at least place (size_with one (exponent + 1) 0))
    go true e =
        let is : exponent ≡ 0 = grind (arith, nat_tests, e) in
        subst (λ x. MeetHalfWay (range_at least place (size_with one x fraction)) (range_at least place (size_with one (x + 1) 0))) (sym is)
        (meets_same (unit_at least place) (quarter_at 0) fraction (one + 0) false (omega (arith, last)))
    go false e =
        let more : nat_lt 1 (exponent + 1) ≡ true = grind (arith, nat_tests, e) in
        rw (e, some, more) (meets_next (unit_at least place) (quarter_at (exponent - 1)) (quarter_at (exponent + 1 - 1)) (one + fraction) (one + 0) (fraction == 0 && nat_lt 1 exponent) (quarter_doubles exponent e) (omega (arith, last)) (omega (arith, even)))

pub next_meets : NextMeets
next_meets least one bits place some even = go (nat_lt (bits % one + 1) one) refl
  where
    go : (x : Bool) → nat_lt (bits % one + 1) one ≡ x → MeetHalfWay (range_of least one bits place) (range_of least one (bits + 1) place)
    go true e =
        let less : bits % one + 1 < one = grind (arith, nat_tests, e) in
        let all : bits / one * one + (bits % one + 1) ≡ bits + 1 = let w = div-add-mod' bits one in omega (arith, w) in
        let high : (bits + 1) / one ≡ bits / one = ap (λ n. n / one) (sym all) ∙ div-mul-add (bits / one) one (bits % one + 1) less in
        let low : (bits + 1) % one ≡ bits % one + 1 = ap (λ n. n % one) (sym all) ∙ mod-mul-add (bits / one) one (bits % one + 1) less in
        subst (λ x. MeetHalfWay (range_of least one bits place) (range_at least place (size_with one x ((bits + 1) % one)))) (sym high)
        (subst (λ x. MeetHalfWay (range_of least one bits place) (range_at least place (size_with one (bits / one) x))) (sym low)
        (fraction_next least one (bits / one) (bits % one) place))
    go false e =
        let last : bits % one + 1 ≡ one = let less = mod_below bits one some in grind (arith, nat_tests, e, less) in
        let all : (bits / one + 1) * one + 0 ≡ bits + 1 = let w = div-add-mod' bits one in let m : (bits / one + 1) * one ≡ bits / one * one + one = grind arith in omega (arith, w, m, last) in
        let high : (bits + 1) / one ≡ bits / one + 1 = ap (λ n. n / one) (sym all) ∙ div-mul-add (bits / one + 1) one 0 some in
        let low : (bits + 1) % one ≡ 0 = ap (λ n. n % one) (sym all) ∙ mod-mul-add (bits / one + 1) one 0 some in
        subst (λ x. MeetHalfWay (range_of least one bits place) (range_at least place (size_with one x ((bits + 1) % one)))) (sym high)
        (subst (λ x. MeetHalfWay (range_of least one bits place) (range_at least place (size_with one (bits / one + 1) x))) (sym low)
        (exponent_next least one (bits / one) (bits % one) place last even))

-- ---- one float

opposed : (ends : Bool) (a b : ℕ) → below ends a b ≡ true → below (not ends) b a ≡ true → ⊥
opposed true a b e f = grind (arith, nat_tests, e, f)
opposed false a b e f = grind (arith, nat_tests, e, f)

not_in_next : (this next : Range) (parts : ℕ) → MeetHalfWay this next → inside this parts ≡ true → inside next parts ≡ true → ⊥
not_in_next this next parts meet one other =
    let high = right_true (below this.ends this.low parts) (below this.ends parts this.high) one in
    let low = left_true (below next.ends next.low parts) (below next.ends parts next.high) other in
    opposed this.ends parts this.high high (subst (λ t. below t this.high parts ≡ true) meet.either (subst (λ n. below next.ends n parts ≡ true) meet.point low))

not_far_above : (this next : Range) (parts : ℕ) → this.high < next.low → inside this parts ≡ true → inside next parts ≡ true → ⊥
not_far_above this next parts less one other =
    let high = below_le this.ends parts this.high (right_true (below this.ends this.low parts) (below this.ends parts this.high) one) in
    let low = below_le next.ends next.low parts (left_true (below next.ends next.low parts) (below next.ends parts next.high) other) in
    omega (arith, less, high, low)

-- a range begins where the one before it ends, and is not empty
begins_higher : (least one bits place x : ℕ) → 0 < one → one % 2 ≡ 0 → x ≤ (range_of least one bits place).low → x < (range_of least one (bits + 1) place).low
begins_higher least one bits place x some even le =
    on x (range_of least one bits place) (range_of least one (bits + 1) place) order.low order.high (next_meets least one bits place some even).point le
  where
    order : IsOrdered (range_of least one bits place)
    order = is_ordered least place (size_with one (bits / one) (bits % one))

    on : (x : ℕ) (this next : Range) → this.low ≤ this.middle → this.middle < this.high → next.low ≡ this.high → x ≤ this.low → x < next.low
    on x this next a b c d = omega (arith, a, b, c, d)

above : (least one bits place k : ℕ) → 0 < one → one % 2 ≡ 0 → (range_of least one bits place).high < (range_of least one (bits + 2 + k) place).low
above least one bits place zero some even =
    let point = (next_meets least one bits place some even).point in
    subst (λ n. (range_of least one bits place).high < (range_of least one n place).low) (omega arith)
    (begins_higher least one (bits + 1) place (range_of least one bits place).high some even (same (range_of least one bits place).high (range_of least one (bits + 1) place).low point))
  where
    same : (x y : ℕ) → y ≡ x → x ≤ y
    same x y e = omega (arith, e)
above least one bits place (suc k) some even =
    subst (λ n. (range_of least one bits place).high < (range_of least one n place).low) (omega arith)
    (begins_higher least one (bits + 2 + k) place (range_of least one bits place).high some even
    (less_le (range_of least one bits place).high (range_of least one (bits + 2 + k) place).low (above least one bits place k some even)))
  where
    less_le : (x y : ℕ) → x < y → x ≤ y
    less_le x y e = omega (arith, e)

pub reads_back_as_one : ReadsBackAsOne
reads_back_as_one least one bits other place units some even less back = go (reads_back (range_of least one other place) units) refl
  where
    at : (x : Bool) → nat_lt (bits + 1) other ≡ x → reads_back (range_of least one other place) units ≡ true → ⊥
    at true e too =
        let far = subst (λ n. (range_of least one bits place).high < (range_of least one n place).low) (let z : bits + 2 + (other - (bits + 2)) ≡ other = grind (arith, nat_tests, e) in z)
        (above least one bits place (other - (bits + 2)) some even) in
        not_far_above (range_of least one bits place) (range_of least one other place) (units * unit_at least place) far back too
    at false e too =
        let is : other ≡ bits + 1 = grind (arith, nat_tests, e, less) in
        not_in_next (range_of least one bits place) (range_of least one (bits + 1) place) (units * unit_at least place) (next_meets least one bits place some even) back
        (subst (λ n. reads_back (range_of least one n place) units ≡ true) is too)

    go : (x : Bool) → reads_back (range_of least one other place) units ≡ x → reads_back (range_of least one other place) units ≡ false
    go true e = absurd (at (nat_lt (bits + 1) other) refl e)
    go false e = e
