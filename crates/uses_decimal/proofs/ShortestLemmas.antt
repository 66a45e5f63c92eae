-- The decimal that is taken is the shortest: what the others are, wherever they stand.
use Rattle.std.proofs.Common.{◌≡◌, ◌<◌, ◌≤◌, ℕ, suc, ◌+◌, ◌-◌, ◌*◌, ◌^◌, ◌∙◌, ap, sym, refl, subst, Bool, true, false, arith}
use Rattle.std.specs.Prelude.{nat_le}
use Rattle.std.proofs.lemmas.Bool.Decides.{nat_tests}
use Rattle.std.proofs.lemmas.Nat.{mul-le, pow-add}
use Rattle.std.proofs.Math.Nat.{one-le-pow, pow-le-pow_right, mul-pos, suc-mul}
use Rattle.jser_decimal.specs.Bigs.{below}
use Rattle.jser_decimal.specs.Shortest.{Range, quarter_at, range_at, reads_back, shortest, unit_at}
use Rattle.uses_decimal.proofs.FewestLemmas.{has_back, has_even, has_fewest, has_nearest}
use Rattle.uses_decimal.proofs.RangeLemmas.{IsOrdered, below_up, both_true, far, inside, is_ordered, le_on, left_true, lt_below, squeezed}
use Rattle.uses_decimal.proofs.PlaceLemmas.{at_least, at_most, narrow}
use Rattle.uses_decimal.specs.Laws.{TakesShortest}
use Rattle.uses_decimal.specs.Meaning.{distance}

-- ---- decimals of great places are numbers of units

pub moved : (least base more place count : ℕ) → base + more ≤ place → count * unit_at least place ≡ count * 10 ^ (place - (base + more)) * 10 ^ more * unit_at least base
moved least base more place count le =
    let a : 10 ^ place ≡ 10 ^ (place - (base + more)) * (10 ^ base * 10 ^ more) =
    ap (λ n. 10 ^ n) (omega (arith, le)) ∙ pow-add 10 (place - (base + more)) (base + more) ∙ ap (λ n. 10 ^ (place - (base + more)) * n) (pow-add 10 base more) in
    ap (λ n. count * (2 ^ (least + 2) * n)) a ∙ turned count (2 ^ (least + 2)) (10 ^ (place - (base + more))) (10 ^ base) (10 ^ more)
  where
    turned : (c w x y z : ℕ) → c * (w * (x * (y * z))) ≡ c * x * z * (w * y)
    turned c w x y z = grind arith

-- those of smaller places, with as few digits, are less than the size
small : (least base more place count : ℕ) → more ≤ 15 → place < base + more → count < 10 ^ (17 - more) → count * unit_at least place < 10 ^ 16 * unit_at least base
small least base more place count few less digits =
    let w = 2 ^ (least + 2) in
    let x = 10 ^ place in
    let y = 10 ^ (17 - more) in
    let z = 10 ^ (base + more - 1) in
    let some : 0 < w * x = mul-pos (one-le-pow (least + 2) 2 (omega arith)) (one-le-pow place 10 (omega arith)) in
    let a : y * z ≡ 10 ^ 16 * 10 ^ base = sym (pow-add 10 (17 - more) (base + more - 1)) ∙ ap (λ n. 10 ^ n) (omega (arith, few, less)) ∙ pow-add 10 16 base in
    let grows : x ≤ z = pow-le-pow_right {n = 10} (omega arith) (let le : place ≤ base + more - 1 = omega (arith, less) in le) in
    let b : w * x ≤ w * z = mul-le w x w z (omega arith) grows in
    let c : suc count * (w * x) ≤ y * (w * z) = mul-le (suc count) (w * x) y (w * z) digits b in
    let d : suc count * (w * x) ≡ count * (w * x) + w * x = suc-mul count (w * x) in
    let e : y * (w * z) ≡ 10 ^ 16 * (w * 10 ^ base) = turned y w z (10 ^ 16) (10 ^ base) a in
    omega (arith, some, c, d, e)
  where
    turned : (y w z t b : ℕ) → y * z ≡ t * b → y * (w * z) ≡ t * (w * b)
    turned y w z t b e = let l : y * (w * z) ≡ w * (y * z) = grind arith in let r : w * (t * b) ≡ t * (w * b) = grind arith in l ∙ ap (λ n. w * n) e ∙ r

-- ---- what stands for such a decimal

-- a number of these steps reads back and is no farther, and where it is as far, it is the same
record StandsFor (range : Range) (more parts : ℕ) : Type 0 where
  count : ℕ
  back : reads_back range (count * 10 ^ more) ≡ true
  near : distance range (count * 10 ^ more) ≤ far range.middle parts
  same : distance range (count * 10 ^ more) ≡ far range.middle parts → count * 10 ^ more * range.unit ≡ parts

stands : (range : Range) (more count parts : ℕ) → inside range parts ≡ true → parts ≡ count * 10 ^ more * range.unit → StandsFor range more parts
stands range more count parts back is = record {
  count = count;
  back = subst (λ n. inside range n ≡ true) is back;
  near = subst (λ n. far range.middle n ≤ far range.middle parts) is (omega arith);
  same = λ _. sym is;
}

-- the first number of 17 digits stands for all that are smaller
first_stands : (range : Range) (more parts : ℕ) → IsOrdered range → more ≤ 15 → 10 ^ 16 * range.unit ≤ range.middle → inside range parts ≡ true → parts < 10 ^ 16 * range.unit
    → StandsFor range more parts
first_stands range more parts order few least back less =
    let first = 10 ^ (16 - more) * 10 ^ more * range.unit in
    let is : 10 ^ (16 - more) * 10 ^ more ≡ 10 ^ 16 = sym (pow-add 10 (16 - more) more) ∙ ap (λ n. 10 ^ n) (let z : 16 - more + more ≡ 16 = omega (arith, few) in z) in
    let whole : first ≡ 10 ^ 16 * range.unit = ap (λ n. n * range.unit) is in
    let high = order.high in
    let here : below range.ends range.low first ≡ true =
    below_up range.ends range.low parts first (left_true (below range.ends range.low parts) (below range.ends parts range.high) back) (omega (arith, whole, less)) in
    let there : below range.ends first range.high ≡ true = lt_below range.ends first range.high (omega (arith, whole, least, high)) in
    record {
      count = 10 ^ (16 - more);
      back = both_true (below range.ends range.low first) (below range.ends first range.high) here there;
      near = omega (arith, whole, less, least);
      same = λ e. absurd (omega (arith, whole, less, least, e));
    }

-- any decimal with some digits less than 17
stand : (range : Range) (least base more place count : ℕ) → IsOrdered range → range.unit ≡ unit_at least base → more ≤ 15 → count < 10 ^ (17 - more)
    → 10 ^ 16 * range.unit ≤ range.middle → inside range (count * unit_at least place) ≡ true → StandsFor range more (count * unit_at least place)
stand range least base more place count order unit few digits first back = go (nat_le (base + more) place) refl
  where
    go : (x : Bool) → nat_le (base + more) place ≡ x → StandsFor range more (count * unit_at least place)
    go true e =
        stands range more (count * 10 ^ (place - (base + more))) (count * unit_at least place) back
        (moved least base more place count (grind (arith, nat_tests, e)) ∙ ap (λ n. count * 10 ^ (place - (base + more)) * 10 ^ more * n) (sym unit))
    go false e =
        first_stands range more (count * unit_at least place) order few first back
        (subst (λ n. count * unit_at least place < 10 ^ 16 * n) (sym unit) (small least base more place count few (grind (arith, nat_tests, e)) digits))

pub takes_shortest : TakesShortest
takes_shortest least size is =
    let taken = shortest least size in
    let range = range_at least taken.place size in
    let order = is_ordered least taken.place size in
    let first = at_least least size.power size.significand is.kind is.some is.bits is.within in
    record {
      least = first;
      most = at_most least size.power size.significand is.bits is.within;
      back = has_back range order
          (narrow (quarter_at size.power) size.significand (unit_at least taken.place) size.at_edge (mul-pos (one-le-pow size.power 2 (omega arith)) (one-le-pow 344 10 (omega arith)))
          is.some is.bits is.edge first);
      fewest = λ more place count few digits back.
          let s = stand range least taken.place more place count order refl few digits first back in
          has_fewest range order more s.count few s.back;
      nearest = λ more place count last digits back.
          let s = stand range least taken.place more place count order refl last.0 digits first back in
          le_on (distance range taken.units) (distance range (s.count * 10 ^ more)) (distance (range_at least place size) count) (has_nearest range order more s.count last s.back) s.near;
      even = λ more place count last digits back same other.
          let s = stand range least taken.place more place count order refl last.0 digits first back in
          let near = has_nearest range order more s.count last s.back in
          let all = squeezed (distance range taken.units) (distance range (s.count * 10 ^ more)) (distance (range_at least place size) count) near s.near same in
          has_even range order more s.count last s.back all.0 (λ e. other (ap (λ n. n * range.unit) e ∙ s.same all.1));
    }
