-- The fewest digits, and the place of a unit.
use Rattle.std.proofs.Common.{◌≡◌, ◌<◌, ◌≤◌, ℕ, suc, zero, ◌+◌, ◌-◌, ◌*◌, ◌^◌, ◌/◌, ◌∙◌, ap, sym, refl, subst, min, ◌%◌, ◌&&◌, not, Bool, true, false, Some, None, if◌then◌else◌, arith}
use Rattle.std.specs.Prelude.{nat_le, nat_lt, ◌==◌}
use Rattle.std.proofs.lemmas.Bool.Decides.{nat_tests}
use Rattle.std.proofs.Math.Nat.{pow-le-pow_right, one-le-pow, mul-le-mul_left, mul_assoc, suc-mul, mul-pos, mul-lt-mul_of_pos_right, mul-div-mul_right}
use Rattle.std.proofs.lemmas.Nat.{mul-le, pow-add}
use Rattle.jser_decimal.specs.Bigs.{below}
use Rattle.jser_decimal.specs.declared.shortest.Decimal.{Decimal}
use Rattle.jser_decimal.specs.declared.shortest.Measure.{Measure}
use Rattle.jser_decimal.specs.declared.shortest.Size.{Size}
use Rattle.jser_decimal.specs.Measured.{IsMeasured, common, number, scaled, view_range}
use Rattle.jser_decimal.specs.Shortest.{Range, best, best_of, choice, fewest, low_quarters, next_is_nearer, range_at, reads_back, shortest, or_else, place_from, quarter_at, unit_at}

pub fewest_found : (range : Range) (more step steps : ℕ) → step ≡ 10 ^ more → best range step ≡ Some steps → steps * step ≡ fewest range more
fewest_found range zero step steps is found =
    ap (λ s. steps * s) is ∙ sym (ap (λ o. or_else 1 o (range.middle / range.unit)) (subst (λ s. best range s ≡ Some steps) is found))
fewest_found range (suc more) step steps is found =
    ap (λ s. steps * s) is ∙ sym (ap (λ o. or_else (10 ^ suc more) o (fewest range more)) (subst (λ s. best range s ≡ Some steps) is found))

pub fewest_next : (range : Range) (more step : ℕ) → 0 < more → step ≡ 10 ^ more → best range step ≡ None → fewest range (more - 1) ≡ fewest range more
fewest_next range zero step some is found = omega (arith, some)
fewest_next range (suc more) step some is found =
    ap (λ n. fewest range n) (omega arith) ∙ sym (ap (λ o. or_else (10 ^ suc more) o (fewest range more)) (subst (λ s. best range s ≡ None) is found))

pub power_is_some : (power : ℕ) → 0 < 10 ^ power
power_is_some power = one-le-pow power 10 (omega arith)

pub power_is_few : (power : ℕ) → power ≤ 15 → 10 ^ power ≤ 10 ^ 15
power_is_few power few = pow-le-pow_right {n = 10} (omega arith) few

-- at a greater place a unit is no smaller
unit_grows : (least i j : ℕ) → i ≤ j → unit_at least i ≤ unit_at least j
unit_grows least i j le = mul-le (2 ^ (least + 2)) (10 ^ i) (2 ^ (least + 2)) (10 ^ j) (omega arith) (pow-le-pow_right {n = 10} (omega arith) le)

beyond_before : (least middle i j : ℕ) → i ≤ j → 10 ^ 17 * unit_at least j ≤ middle → 10 ^ 17 * unit_at least i ≤ middle
beyond_before least middle i j le beyond = let grows = unit_grows least i j le in omega (arith, grows, beyond)

-- one turn of the search
turn : (least middle fuel from place : ℕ) (x : Bool) → nat_lt middle (10 ^ 17 * unit_at least from) ≡ x → from ≤ place
    → ((j : ℕ) → from ≤ j → j < place → 10 ^ 17 * unit_at least j ≤ middle) → middle < 10 ^ 17 * unit_at least place
    → (from < place → place_from least middle fuel (from + 1) ≡ place) → (if x then from else place_from least middle fuel (from + 1)) ≡ place
turn least middle fuel from place true e order before here later = go (nat_lt from place) refl
  where
    go : (y : Bool) → nat_lt from place ≡ y → from ≡ place
    go true less = let beyond = before from (omega arith) (grind (arith, nat_tests, less)) in grind (arith, nat_tests, e, beyond)
    go false less = grind (arith, nat_tests, less, order)
turn least middle fuel from place false e order before here later = go (nat_lt from place) refl
  where
    go : (y : Bool) → nat_lt from place ≡ y → place_from least middle fuel (from + 1) ≡ place
    go true less = later (grind (arith, nat_tests, less))
    go false less =
        let same : from ≡ place = grind (arith, nat_tests, less, order) in
        let below = subst (λ p. middle < 10 ^ 17 * unit_at least p) (sym same) here in
        grind (arith, nat_tests, e, below)

place_is : (least middle fuel from place : ℕ) → from ≤ place → place ≤ from + fuel → ((j : ℕ) → from ≤ j → j < place → 10 ^ 17 * unit_at least j ≤ middle)
    → middle < 10 ^ 17 * unit_at least place → place_from least middle fuel from ≡ place
unfolding place_from
place_is least middle zero from place order enough before here = omega (arith, order, enough)
place_is least middle (suc fuel) from place order enough before here =
    turn least middle fuel from place (nat_lt middle (10 ^ 17 * unit_at least from)) refl order before here
    (λ less. place_is least middle fuel (from + 1) place (omega (arith, less)) (omega (arith, enough)) (λ j from' to. before j (omega (arith, from')) to) here)

-- the place is the least at which the size has at most 17 digits
pub place_found : (least middle place : ℕ) → place ≤ 700 → middle < 10 ^ 17 * unit_at least place → (0 < place → 10 ^ 17 * unit_at least (place - 1) ≤ middle)
    → place ≡ place_from least middle 700 0
place_found least middle place within here before =
    sym (place_is least middle 700 0 place (omega arith) within (λ j from to. beyond_before least middle j (place - 1) (omega (arith, to)) (before (omega (arith, to)))) here)

below_far : (quarters p x k m t big : ℕ) → quarters < m → p ≤ x * k → 0 < x → 0 < k → 0 < t → m * k * t ≤ big → quarters * p * t < x * big
below_far quarters p x k m t big few within some some' some'' enough =
    let w = x * k * t in
    let above : 0 < w = mul-pos (mul-pos some some') some'' in
    let a : quarters * p * t ≤ quarters * (x * k) * t = mul-le (quarters * p) t (quarters * (x * k)) t (mul-le-mul_left quarters within) (omega arith) in
    let b : quarters * w + w ≤ m * w = subst (λ n. n ≤ m * w) (suc-mul quarters w) (mul-le (suc quarters) w m w few (omega arith)) in
    let c : m * w ≡ x * (m * k * t) = grind arith in
    let d : x * (m * k * t) ≤ x * big = mul-le-mul_left x enough in
    let e : quarters * (x * k) * t ≡ quarters * w = mul_assoc quarters (x * k) t in
    omega (arith, a, b, c, d, e, above)

moved : (x y t : ℕ) → y ≡ x * 4 → x * (10 ^ 17 * 4 * t) ≡ 10 ^ 17 * (y * t)
moved x y t e =
    let a : x * (10 ^ 17 * 4 * t) ≡ 10 ^ 17 * (x * 4 * t) = grind arith in
    a ∙ sym (ap (λ y. 10 ^ 17 * (y * t)) e)

-- the size has at most 17 digits at the greatest place
pub far_enough : (least quarters power : ℕ) → quarters < 2 ^ 55 → power ≤ least + 1000 → quarter_at power * quarters < 10 ^ 17 * unit_at least 700
far_enough least quarters power few within =
    let powers : 2 ^ power ≤ 2 ^ least * 2 ^ 1000 = subst (λ n. 2 ^ power ≤ n) (pow-add 2 least 1000) (pow-le-pow_right {n = 2} (omega arith) within) in
    let some : 0 < 2 ^ least = one-le-pow least 2 (omega arith) in
    let below = below_far quarters (2 ^ power) (2 ^ least) (2 ^ 1000) (2 ^ 55) (10 ^ 344) (10 ^ 17 * 4 * 10 ^ 700) few powers some (omega arith) (omega arith) (omega arith) in
    let unit : 2 ^ (least + 2) ≡ 2 ^ least * 4 = pow-add 2 least 2 in
    let order : quarters * 2 ^ power * 10 ^ 344 ≡ quarter_at power * quarters = grind arith in
    subst (λ n. n < 10 ^ 17 * unit_at least 700) order (subst (λ n. quarters * 2 ^ power * 10 ^ 344 < n) (moved (2 ^ least) (2 ^ (least + 2)) (10 ^ 700) unit) below)

pub far_enough_there : (least power significand place : ℕ) → 700 ≤ place → place ≤ 700 → significand < 2 ^ 53 → power ≤ least + 1000
    → quarter_at power * (significand * 4) < 10 ^ 17 * unit_at least place
far_enough_there least power significand place from to few within =
    subst (λ p. quarter_at power * (significand * 4) < 10 ^ 17 * unit_at least p) (let e : 700 ≡ place = omega (arith, from, to) in e)
    (far_enough least (significand * 4) power (omega (arith, few)) within)

-- ---- without common factors

-- a power of two and of ten, in two parts
pub apart : (a b t u : ℕ) → t ≤ a → u ≤ b → 2 ^ (a - t) * 10 ^ (b - u) * (2 ^ t * 10 ^ u) ≡ 2 ^ a * 10 ^ b
apart a b t u one two =
    let x : 2 ^ (a - t) * 2 ^ t ≡ 2 ^ a = sym (pow-add 2 (a - t) t) ∙ ap (λ n. 2 ^ n) (omega (arith, one)) in
    let y : 10 ^ (b - u) * 10 ^ u ≡ 10 ^ b = sym (pow-add 10 (b - u) u) ∙ ap (λ n. 10 ^ n) (omega (arith, two)) in
    crossed (2 ^ (a - t)) (10 ^ (b - u)) (2 ^ t) (10 ^ u) (2 ^ a) (10 ^ b) x y
  where
    crossed : (p q r s v w : ℕ) → p * r ≡ v → q * s ≡ w → p * q * (r * s) ≡ v * w
    crossed p q r s v w x y = let e : p * q * (r * s) ≡ p * r * (q * s) = grind arith in e ∙ ap (λ n. n * (q * s)) x ∙ ap (λ n. v * n) y

pub below_scaled : (ties : Bool) (a b factor : ℕ) → 0 < factor → below ties (a * factor) (b * factor) ≡ below ties a b
below_scaled true a b factor some = go (nat_le a b) refl
  where
    go : (x : Bool) → nat_le a b ≡ x → nat_le (a * factor) (b * factor) ≡ x
    go true e = let order : a * factor ≤ b * factor = mul-le a factor b factor (grind (arith, nat_tests, e)) (omega arith) in grind (arith, nat_tests, order)
    go false e = let order : b * factor < a * factor = mul-lt-mul_of_pos_right (grind (arith, nat_tests, e)) some in grind (arith, nat_tests, order)
below_scaled false a b factor some = go (nat_lt a b) refl
  where
    go : (x : Bool) → nat_lt a b ≡ x → nat_lt (a * factor) (b * factor) ≡ x
    go true e = let order : a * factor < b * factor = mul-lt-mul_of_pos_right (grind (arith, nat_tests, e)) some in grind (arith, nat_tests, order)
    go false e = let order : b * factor ≤ a * factor = mul-le b factor a factor (grind (arith, nat_tests, e)) (omega arith) in grind (arith, nat_tests, order)

reads_back_scaled : (factor : ℕ) (range : Range) (units : ℕ) → 0 < factor → reads_back (scaled factor range) units ≡ reads_back range units
reads_back_scaled factor range units some =
    let here : units * (range.unit * factor) ≡ units * range.unit * factor = sym (mul_assoc units range.unit factor) in
    ap (λ n. below range.ends (range.low * factor) n && below range.ends n (range.high * factor)) here
    ∙ ap (λ x. x && below range.ends (units * range.unit * factor) (range.high * factor)) (below_scaled range.ends range.low (units * range.unit) factor some)
    ∙ ap (λ x. below range.ends range.low (units * range.unit) && x) (below_scaled range.ends (units * range.unit) range.high factor some)

nearer_scaled : (factor : ℕ) (range : Range) (step steps : ℕ) → 0 < factor → next_is_nearer (scaled factor range) step steps ≡ next_is_nearer range step steps
nearer_scaled factor range step steps some =
    let n = (2 * steps + 1) * step in
    let here : n * (range.unit * factor) ≡ n * range.unit * factor = sym (mul_assoc n range.unit factor) in
    let there : range.middle * factor * 2 ≡ range.middle * 2 * factor = grind arith in
    ap (λ x. below (steps % 2 == 1) x (range.middle * factor * 2)) here
    ∙ ap (λ x. below (steps % 2 == 1) (n * range.unit * factor) x) there
    ∙ below_scaled (steps % 2 == 1) (n * range.unit) (range.middle * 2) factor some

best_of_scaled : (factor : ℕ) (range : Range) (step steps : ℕ) → 0 < factor → best_of (scaled factor range) step steps ≡ best_of range step steps
best_of_scaled factor range step steps some =
    ap (λ x. choice x (reads_back (scaled factor range) ((steps + 1) * step)) (next_is_nearer (scaled factor range) step steps) steps) (reads_back_scaled factor range (steps * step) some)
    ∙ ap (λ x. choice (reads_back range (steps * step)) x (next_is_nearer (scaled factor range) step steps) steps) (reads_back_scaled factor range ((steps + 1) * step) some)
    ∙ ap (λ x. choice (reads_back range (steps * step)) (reads_back range ((steps + 1) * step)) x steps) (nearer_scaled factor range step steps some)

whole_scaled : (factor : ℕ) (range : Range) → 0 < factor → range.middle * factor / (range.unit * factor) ≡ range.middle / range.unit
whole_scaled factor range some = mul-div-mul_right range.middle range.unit some

best_scaled : (factor : ℕ) (range : Range) (step : ℕ) → 0 < factor → best (scaled factor range) step ≡ best range step
best_scaled factor range step some =
    ap (λ n. best_of (scaled factor range) step (n / step)) (whole_scaled factor range some) ∙ best_of_scaled factor range step (range.middle / range.unit / step) some

-- a common factor of all numbers of a range changes no decimal
pub fewest_scaled : (factor : ℕ) (range : Range) (more : ℕ) → 0 < factor → fewest (scaled factor range) more ≡ fewest range more
fewest_scaled factor range zero some =
    ap (λ o. or_else 1 o (range.middle * factor / (range.unit * factor))) (best_scaled factor range 1 some)
    ∙ ap (λ n. or_else 1 (best range 1) n) (whole_scaled factor range some)
fewest_scaled factor range (suc more) some =
    ap (λ o. or_else (10 ^ suc more) o (fewest (scaled factor range) more)) (best_scaled factor range (10 ^ suc more) some)
    ∙ ap (λ n. or_else (10 ^ suc more) (best range (10 ^ suc more)) n) (fewest_scaled factor range more some)

pub common_is_some : (least power place : ℕ) → 0 < common least power place
common_is_some least power place =
    mul-pos (one-le-pow (min power (least + 2)) 2 (omega arith)) (one-le-pow (min place 344) 10 (omega arith))

-- at most 17 digits, with a common factor and without
pub within_scaled : (quarter unit factor q u n middle : ℕ) (beyond : Bool) → quarter * factor ≡ q → unit * factor ≡ u → 0 < factor
    → middle ≡ quarter * n → beyond ≡ nat_le (unit * 10 ^ 17) middle → not beyond ≡ nat_lt (q * n) (10 ^ 17 * u)
within_scaled quarter unit factor q u n middle beyond one two some is test =
    let a : quarter * n * factor ≡ quarter * factor * n = grind arith in
    let b : unit * 10 ^ 17 * factor ≡ 10 ^ 17 * (unit * factor) = grind arith in
    ap not test ∙ not_le (unit * 10 ^ 17) middle ∙ ap (λ x. nat_lt x (unit * 10 ^ 17)) is
    ∙ sym (below_scaled false (quarter * n) (unit * 10 ^ 17) factor some)
    ∙ ap (λ x. nat_lt x (unit * 10 ^ 17 * factor)) (a ∙ ap (λ x. x * n) one)
    ∙ ap (λ x. nat_lt (q * n) x) (b ∙ ap (λ x. 10 ^ 17 * x) two)
  where
    not_le : (x y : ℕ) → not (nat_le x y) ≡ nat_lt y x
    not_le x y = grind (arith, nat_tests)

pub digits_scaled : (middle unit factor m u : ℕ) → middle * factor ≡ m → unit * factor ≡ u → 0 < factor → m < 10 ^ 17 * u → middle < 10 ^ 17 * unit
digits_scaled middle unit factor m u one two some less =
    let b : 10 ^ 17 * unit * factor ≡ 10 ^ 17 * u = mul_assoc (10 ^ 17) unit factor ∙ ap (λ x. 10 ^ 17 * x) two in
    let same : nat_lt (middle * factor) (10 ^ 17 * unit * factor) ≡ nat_lt middle (10 ^ 17 * unit) = below_scaled false middle (10 ^ 17 * unit) factor some in
    let far : nat_lt (middle * factor) (10 ^ 17 * unit * factor) ≡ true = grind (arith, nat_tests, one, b, less) in
    let near : nat_lt middle (10 ^ 17 * unit) ≡ true = sym same ∙ far in
    grind (arith, nat_tests, near)

-- the two numbers of a scale

without_common : (least power place twos tens : ℕ) → twos ≡ min power (least + 2) → tens ≡ min place 344 → common least power place ≡ 2 ^ twos * 10 ^ tens
without_common least power place twos tens a b = ap (λ t. 2 ^ t * 10 ^ min place 344) (sym a) ∙ ap (λ u. 2 ^ twos * 10 ^ u) (sym b)

pub quarter_scaled : (least power place twos tens n : ℕ) → twos ≡ min power (least + 2) → tens ≡ min place 344 → n ≡ 2 ^ (power - twos) * 10 ^ (344 - tens)
    → n * common least power place ≡ quarter_at power
quarter_scaled least power place twos tens n a b is =
    ap (λ x. x * common least power place) is ∙ ap (λ x. 2 ^ (power - twos) * 10 ^ (344 - tens) * x) (without_common least power place twos tens a b)
    ∙ apart power 344 twos tens (omega (arith, a)) (omega (arith, b))

pub unit_scaled : (least power place twos tens n : ℕ) → twos ≡ min power (least + 2) → tens ≡ min place 344 → n ≡ 2 ^ (least + 2 - twos) * 10 ^ (place - tens)
    → n * common least power place ≡ unit_at least place
unit_scaled least power place twos tens n a b is =
    ap (λ x. x * common least power place) is ∙ ap (λ x. 2 ^ (least + 2 - twos) * 10 ^ (place - tens) * x) (without_common least power place twos tens a b)
    ∙ apart (least + 2) place twos tens (omega (arith, a)) (omega (arith, b))

-- a product with the number of a scale
pub product_scaled : (quarter factor q product n : ℕ) → quarter * factor ≡ q → product ≡ quarter * n → product * factor ≡ q * n
product_scaled quarter factor q product n is of =
    let a : quarter * n * factor ≡ quarter * factor * n = grind arith in
    ap (λ x. x * factor) of ∙ a ∙ ap (λ x. x * n) is

-- what is measured without a factor is the range
pub measured : (least : ℕ) (size : Size) (place : ℕ) (m : Measure) → IsMeasured least size place m → scaled (common least size.power place) (view_range m) ≡ range_at least place size
measured least size place m is =
    ap (λ x. of x (number m.low * g) (number m.middle * g) (number m.high * g) m.ends) is.unit
    ∙ ap (λ x. of (unit_at least place) x (number m.middle * g) (number m.high * g) m.ends) is.low
    ∙ ap (λ x. of (unit_at least place) (quarter_at size.power * low_quarters size) x (number m.high * g) m.ends) is.middle
    ∙ ap (λ x. of (unit_at least place) (quarter_at size.power * low_quarters size) (quarter_at size.power * (size.significand * 4)) x m.ends) is.high
    ∙ ap (λ x. of (unit_at least place) (quarter_at size.power * low_quarters size) (quarter_at size.power * (size.significand * 4)) (quarter_at size.power * (size.significand * 4 + 2)) x) is.ends
  where
    g : ℕ
    g = common least size.power place

    of : (unit low middle high : ℕ) → Bool → Range
    of unit low middle high ends = record { unit = unit; low = low; middle = middle; high = high; ends = ends }

-- a decimal of what is measured is one of the range
pub measured_fewest : (least : ℕ) (size : Size) (place : ℕ) (m : Measure) (more : ℕ) → IsMeasured least size place m → fewest (view_range m) more ≡ fewest (range_at least place size) more
measured_fewest least size place m more is =
    sym (fewest_scaled (common least size.power place) (view_range m) more (common_is_some least size.power place)) ∙ ap (λ r. fewest r more) (measured least size place m is)

abbrev of_two : (units place : ℕ) → Decimal
of_two units place = record { units = units; place = place }

pub shortest_is : (least : ℕ) (size : Size) (place units : ℕ) (m : Measure) → place ≡ place_from least (quarter_at size.power * (size.significand * 4)) 700 0
    → IsMeasured least size place m → units ≡ fewest (view_range m) 15 → of_two units place ≡ shortest least size
shortest_is least size place units m at is few =
    let all : units ≡ fewest (range_at least place size) 15 = few ∙ measured_fewest least size place m 15 is in
    ap (λ n. of_two n place) all ∙ ap (λ p. of_two (fewest (range_at least p size) 15) p) at
