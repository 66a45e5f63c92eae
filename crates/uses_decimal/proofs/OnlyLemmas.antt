-- There is only one shortest decimal.
use Rattle.std.proofs.Common.{◌≡◌, ◌<◌, ◌≤◌, ℕ, suc, zero, ◌+◌, ◌-◌, ◌*◌, ◌^◌, ◌/◌, ◌%◌, ◌∙◌, ap, sym, refl, subst, Bool, true, false, arith}
use Rattle.std.specs.Prelude.{nat_lt, ◌==◌, ◌≢◌}
use Rattle.std.proofs.lemmas.Bool.Decides.{nat_tests}
use Rattle.std.proofs.lemmas.Nat.{mul-le, pow-add, div-add-mod'}
use Rattle.std.proofs.Math.Nat.{pow-le-pow_right, mul_assoc, mul-lt-mul_of_pos_right}
use Rattle.jser_decimal.specs.declared.Decimal.{Decimal}
use Rattle.jser_decimal.specs.Bigs.{below}
use Rattle.jser_decimal.specs.Shortest.{Range, range_at, reads_back, unit_at}
use Rattle.uses_decimal.proofs.RangeLemmas.{IsOrdered, below_down, below_up, both_true, far, inside, is_ordered, le_on, left_true, lt_below, right_true, squeezed}
use Rattle.uses_decimal.proofs.ShortestLemmas.{moved}
use Rattle.uses_decimal.specs.Laws.{OnlyOne}
use Rattle.uses_decimal.specs.Meaning.{IsShortest, LeavesNoMore, distance}

-- ---- one place

places_apart : (least middle p q : ℕ) → p < q → 10 ^ 16 * unit_at least q ≤ middle → middle < 10 ^ 17 * unit_at least p → ⊥
places_apart least middle p q less one other =
    let w = 2 ^ (least + 2) in
    let grows : w * 10 ^ (p + 1) ≤ w * 10 ^ q = mul-le w (10 ^ (p + 1)) w (10 ^ q) (omega arith) (pow-le-pow_right {n = 10} (omega arith) (let le : p + 1 ≤ q = omega (arith, less) in le)) in
    let next : w * 10 ^ (p + 1) ≡ w * 10 ^ p * 10 = ap (λ n. w * n) (pow-add 10 p 1) ∙ sym (mul_assoc w (10 ^ p) 10) in
    omega (arith, grows, next, one, other)

one_place : (least middle p q : ℕ) → 10 ^ 16 * unit_at least p ≤ middle → middle < 10 ^ 17 * unit_at least p → 10 ^ 16 * unit_at least q ≤ middle → middle < 10 ^ 17 * unit_at least q
    → p ≡ q
one_place least middle p q a b c d = go (nat_lt p q) (nat_lt q p) refl refl
  where
    go : (x y : Bool) → nat_lt p q ≡ x → nat_lt q p ≡ y → p ≡ q
    go true y e f = absurd (places_apart least middle p q (grind (arith, nat_tests, e)) c b)
    go false true e f = absurd (places_apart least middle q p (grind (arith, nat_tests, f)) a d)
    go false false e f = grind (arith, nat_tests, e, f)

-- ---- at one place

-- what is shortest, in units of this place
record IsShortestHere (range : Range) (units : ℕ) : Type 0 where
  back : reads_back range units ≡ true
  fewest : (more count : ℕ) → more ≤ 15 → reads_back range (count * 10 ^ more) ≡ true → units % 10 ^ more ≡ 0
  nearest : (more count : ℕ) → LeavesNoMore units more → reads_back range (count * 10 ^ more) ≡ true → distance range units ≤ distance range (count * 10 ^ more)
  even : (more count : ℕ) → LeavesNoMore units more → reads_back range (count * 10 ^ more) ≡ true → distance range units ≡ distance range (count * 10 ^ more)
      → units ≢ count * 10 ^ more → units / 10 ^ more % 2 ≡ 0

-- parts that read back and are no farther than others
record AsNear (range : Range) (parts other : ℕ) : Type 0 where
  back : inside range parts ≡ true
  near : far range.middle parts ≤ far range.middle other
  same : far range.middle parts ≡ far range.middle other → parts ≡ other

itself_near : (range : Range) (parts other : ℕ) → inside range other ≡ true → parts ≡ other → AsNear range parts other
itself_near range parts other back is = record {
  back = subst (λ n. inside range n ≡ true) (sym is) back;
  near = subst (λ n. far range.middle parts ≤ far range.middle n) is (omega arith);
  same = λ _. is;
}

less_near : (range : Range) (parts other : ℕ) → IsOrdered range → inside range other ≡ true → range.middle < parts → parts ≤ other → AsNear range parts other
less_near range parts other order back above less =
    let low = order.low in
    record {
      back = both_true (below range.ends range.low parts) (below range.ends parts range.high) (lt_below range.ends range.low parts (omega (arith, low, above)))
          (below_down range.ends parts other range.high (right_true (below range.ends range.low other) (below range.ends other range.high) back) less);
      near = omega (arith, above, less);
      same = λ e. omega (arith, above, less, e);
    }

-- a number of steps is a decimal with as few digits, or a power of ten is nearer
record Seen (least base more units : ℕ) (range : Range) : Type 0 where
  place : ℕ
  count : ℕ
  digits : count < 10 ^ (17 - more)
  near : AsNear range (count * unit_at least place) (units * unit_at least base)

seen : (least base more count : ℕ) (range : Range) → IsOrdered range → more ≤ 15 → range.middle < 10 ^ 17 * unit_at least base
    → inside range (count * 10 ^ more * unit_at least base) ≡ true → Seen least base more (count * 10 ^ more) range
seen least base more count range order few most back = go (nat_lt count (10 ^ (17 - more))) refl
  where
    go : (x : Bool) → nat_lt count (10 ^ (17 - more)) ≡ x → Seen least base more (count * 10 ^ more) range
    go true e =
        let none : base + more - (base + more) ≡ 0 = omega arith in
        let is : count * unit_at least (base + more) ≡ count * 10 ^ more * unit_at least base =
        moved least base more (base + more) count (omega arith) ∙ ap (λ n. count * 10 ^ n * 10 ^ more * unit_at least base) none
        ∙ ap (λ n. n * 10 ^ more * unit_at least base) (let z : count * 1 ≡ count = omega arith in z) in
        record { place = base + more; count = count; digits = grind (arith, nat_tests, e); near = itself_near range _ _ back is }
    go false e =
        let two : 10 ^ 2 ≤ 10 ^ (17 - more) = pow-le-pow_right {n = 10} (omega arith) (let le : 2 ≤ 17 - more = omega (arith, few) in le) in
        let one : 1 * unit_at least (base + 17) ≡ 10 ^ 17 * unit_at least base =
        ap (λ n. 1 * (2 ^ (least + 2) * n)) (pow-add 10 base 17) ∙ turned (2 ^ (least + 2)) (10 ^ base) (10 ^ 17) in
        let many : 10 ^ (17 - more) * 10 ^ more ≡ 10 ^ 17 = sym (pow-add 10 (17 - more) more) ∙ ap (λ n. 10 ^ n) (let z : 17 - more + more ≡ 17 = omega (arith, few) in z) in
        let more_steps : 10 ^ (17 - more) * 10 ^ more ≤ count * 10 ^ more = mul-le (10 ^ (17 - more)) (10 ^ more) count (10 ^ more) (grind (arith, nat_tests, e)) (omega arith) in
        let steps : 10 ^ 17 ≤ count * 10 ^ more = omega (arith, many, more_steps) in
        let parts : 10 ^ 17 * unit_at least base ≤ count * 10 ^ more * unit_at least base =
        mul-le (10 ^ 17) (unit_at least base) (count * 10 ^ more) (unit_at least base) steps (omega arith) in
        record {
          place = base + 17;
          count = 1;
          digits = omega (arith, two);
          near = less_near range _ _ order back (omega (arith, one, most)) (omega (arith, one, parts));
        }
      where
        turned : (w x y : ℕ) → 1 * (w * (x * y)) ≡ y * (w * x)
        turned w x y = grind arith

cancel : (a b unit : ℕ) → 0 < unit → a * unit ≡ b * unit → a ≡ b
cancel a b unit some e = go (nat_lt a b) (nat_lt b a) refl refl
  where
    go : (x y : Bool) → nat_lt a b ≡ x → nat_lt b a ≡ y → a ≡ b
    go true y f g = absurd (let less : a * unit < b * unit = mul-lt-mul_of_pos_right (grind (arith, nat_tests, f)) some in omega (arith, less, e))
    go false true f g = absurd (let less : b * unit < a * unit = mul-lt-mul_of_pos_right (grind (arith, nat_tests, g)) some in omega (arith, less, e))
    go false false f g = grind (arith, nat_tests, f, g)

here : (least : ℕ) (size : _) (taken : Decimal) → IsShortest (λ place. range_at least place size) taken → IsShortestHere (range_at least taken.place size) taken.units
here least size taken is =
    let range = range_at least taken.place size in
    let order = is_ordered least taken.place size in
    record {
      back = is.back;
      fewest = λ more count few back.
          let s = seen least taken.place more count range order few is.most back in
          is.fewest more s.place s.count few s.digits s.near.back;
      nearest = λ more count last back.
          let s = seen least taken.place more count range order last.0 is.most back in
          le_on (distance range taken.units) (far range.middle (s.count * unit_at least s.place)) (distance range (count * 10 ^ more))
          (is.nearest more s.place s.count last s.digits s.near.back) s.near.near;
      even = λ more count last back same other.
          let s = seen least taken.place more count range order last.0 is.most back in
          let all = squeezed (distance range taken.units) (far range.middle (s.count * unit_at least s.place)) (distance range (count * 10 ^ more))
          (is.nearest more s.place s.count last s.digits s.near.back) s.near.near same in
          is.even more s.place s.count last s.digits s.near.back all.0
          (λ e. other (cancel taken.units (count * 10 ^ more) (unit_at least taken.place) order.unit (e ∙ s.near.same all.1)));
    }

-- ---- two of them

-- so many of the last digits are 0, and no more, of this many
record Greatest (units most : ℕ) : Type 0 where
  more : ℕ
  within : more ≤ most
  out : units % 10 ^ more ≡ 0
  last : more < most → units % 10 ^ (more + 1) ≢ 0

greatest_next : (units most : ℕ) → Greatest units most → Greatest units (suc most)
greatest_next units most g = go (units % 10 ^ suc most == 0) refl
  where
    go : (x : Bool) → (units % 10 ^ suc most == 0) ≡ x → Greatest units (suc most)
    go true e = record { more = suc most; within = omega arith; out = grind (arith, nat_tests, e); last = λ less. absurd (omega (arith, less)) }
    go false e =
        let within = g.within in
        let not : units % 10 ^ suc most ≢ 0 = grind (arith, nat_tests, e) in
        record {
          more = g.more;
          within = omega (arith, within);
          out = g.out;
          last = λ less. at (nat_lt g.more most) refl less not;
        }
      where
        at : (y : Bool) → nat_lt g.more most ≡ y → g.more < suc most → units % 10 ^ suc most ≢ 0 → units % 10 ^ (g.more + 1) ≢ 0
        at true f less not = g.last (grind (arith, nat_tests, f))
        at false f less not = subst (λ n. units % 10 ^ n ≢ 0) (let z : suc most ≡ g.more + 1 = grind (arith, nat_tests, f, less) in z) not

greatest : (units most : ℕ) → Greatest units most
greatest units zero = record { more = 0; within = omega arith; out = omega arith; last = λ less. absurd (omega (arith, less)) }
greatest units (suc most) = greatest_next units most (greatest units most)

-- it is a number of such steps
whole : (units more : ℕ) → units % 10 ^ more ≡ 0 → units ≡ units / 10 ^ more * 10 ^ more
whole units more out = let e = div-add-mod' units (10 ^ more) in omega (arith, e, out)

-- two that are as near, both even, have one between them that is nearer
two_apart : (range : Range) (one other more : ℕ) → 0 < range.unit → IsShortestHere range one → IsShortestHere range other → LeavesNoMore one more → LeavesNoMore other more
    → one % 10 ^ more ≡ 0 → other % 10 ^ more ≡ 0 → one < other → ⊥
two_apart range one other more some first second last last' out out' less =
    let step = 10 ^ more in
    let p = one / step in
    let q = other / step in
    let is : one ≡ p * step = whole one more out in
    let is' : other ≡ q * step = whole other more out' in
    let near : distance range one ≤ distance range other =
    subst (λ n. distance range one ≤ distance range n) (sym is') (first.nearest more q last (subst (λ n. reads_back range n ≡ true) is' second.back)) in
    let near' : distance range other ≤ distance range one =
    subst (λ n. distance range other ≤ distance range n) (sym is) (second.nearest more p last' (subst (λ n. reads_back range n ≡ true) is first.back)) in
    let same : distance range one ≡ distance range other = omega (arith, near, near') in
    let even : p % 2 ≡ 0 =
    first.even more q last (subst (λ n. reads_back range n ≡ true) is' second.back) (same ∙ ap (λ n. distance range n) is') (λ e. absurd (let z : one ≡ other = e ∙ sym is' in omega (arith, z, less))) in
    let even' : q % 2 ≡ 0 =
    second.even more p last' (subst (λ n. reads_back range n ≡ true) is first.back) (sym same ∙ ap (λ n. distance range n) is) (λ e. absurd (let z : other ≡ one = e ∙ sym is in omega (arith, z, less))) in
    let parts : one * range.unit < other * range.unit = mul-lt-mul_of_pos_right less some in
    let middle : (p / 2 + q / 2) * step * range.unit * 2 ≡ one * range.unit + other * range.unit =
    halves (p / 2) (q / 2) p q step range.unit one other (omega (arith, even)) (omega (arith, even')) is is' in
    let at : (p / 2 + q / 2) * step * range.unit ≡ range.middle = omega (arith, middle, same, parts) in
    let back : reads_back range ((p / 2 + q / 2) * step) ≡ true =
    subst (λ n. inside range n ≡ true) (sym at)
    (both_true (below range.ends range.low range.middle) (below range.ends range.middle range.high)
    (below_up range.ends range.low (one * range.unit) range.middle (left_true (below range.ends range.low (one * range.unit)) (below range.ends (one * range.unit) range.high) first.back) (omega (arith, same, parts)))
    (below_down range.ends range.middle (other * range.unit) range.high
    (right_true (below range.ends range.low (other * range.unit)) (below range.ends (other * range.unit) range.high) second.back) (omega (arith, same, parts)))) in
    let nearest : distance range one ≤ far range.middle range.middle =
    subst (λ n. distance range one ≤ far range.middle n) at (first.nearest more (p / 2 + q / 2) last back) in
    omega (arith, nearest, same, parts)
  where
    halves : (x y p q step unit one other : ℕ) → p ≡ x * 2 → q ≡ y * 2 → one ≡ p * step → other ≡ q * step → (x + y) * step * unit * 2 ≡ one * unit + other * unit
    halves x y p q step unit one other a b c d =
        let e : (x + y) * step * unit * 2 ≡ x * 2 * step * unit + y * 2 * step * unit = grind arith in
        e ∙ ap (λ n. n * step * unit + y * 2 * step * unit) (sym a) ∙ ap (λ n. p * step * unit + n * step * unit) (sym b)
        ∙ ap (λ n. n * unit + q * step * unit) (sym c) ∙ ap (λ n. one * unit + n * unit) (sym d)

one_here : (range : Range) (one other : ℕ) → 0 < range.unit → IsShortestHere range one → IsShortestHere range other → one ≡ other
one_here range one other some first second = go (nat_lt one other) (nat_lt other one) refl refl
  where
    go : (x y : Bool) → nat_lt one other ≡ x → nat_lt other one ≡ y → one ≡ other
    go x y e f =
        let g = greatest one 15 in
        let within = g.within in
        let back : reads_back range (one / 10 ^ g.more * 10 ^ g.more) ≡ true = subst (λ n. reads_back range n ≡ true) (whole one g.more g.out) first.back in
        let out : other % 10 ^ g.more ≡ 0 = second.fewest g.more (one / 10 ^ g.more) within back in
        let last : LeavesNoMore one g.more = (within, g.last) in
        let last' : LeavesNoMore other g.more = (
          within,
          λ less none. g.last less
              (first.fewest (g.more + 1) (other / 10 ^ (g.more + 1)) (omega (arith, less)) (subst (λ n. reads_back range n ≡ true) (whole other (g.more + 1) none) second.back)),
        ) in
        at x y e f g last last' out
      where
        at : (x y : Bool) → nat_lt one other ≡ x → nat_lt other one ≡ y → (g : Greatest one 15) → LeavesNoMore one g.more → LeavesNoMore other g.more → other % 10 ^ g.more ≡ 0 → one ≡ other
        at true y e f g last last' out = absurd (two_apart range one other g.more some first second last last' g.out out (grind (arith, nat_tests, e)))
        at false true e f g last last' out = absurd (two_apart range other one g.more some second first last' last out g.out (grind (arith, nat_tests, f)))
        at false false e f g last last' out = grind (arith, nat_tests, e, f)

abbrev of_two : (units place : ℕ) → Decimal
of_two units place = record { units = units; place = place }

pub only_one : OnlyOne
only_one least size one other first second =
    let range = range_at least one.place size in
    let at : one.place ≡ other.place = one_place least range.middle one.place other.place first.least first.most second.least second.most in
    let there : IsShortestHere range other.units = subst (λ p. IsShortestHere (range_at least p size) other.units) (sym at) (here least size other second) in
    let units : one.units ≡ other.units = one_here range one.units other.units (is_ordered least one.place size).unit (here least size one first) there in
    ap (λ n. of_two n one.place) units ∙ ap (λ p. of_two other.units p) at
