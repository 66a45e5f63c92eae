-- Of the decimals with some digits the nearest, and of two the even one.
use Rattle.std.proofs.Common.{◌≡◌, ◌<◌, ◌≤◌, ℕ, suc, ◌+◌, ◌*◌, ◌/◌, refl, subst, ◌%◌, Bool, true, false, Some, arith}
use Rattle.std.specs.Prelude.{nat_le, nat_lt, ◌==◌, ◌≢◌}
use Rattle.std.proofs.lemmas.Bool.Decides.{nat_tests}
use Rattle.std.proofs.lemmas.Nat.{mul-le}
use Rattle.std.proofs.Math.Nat.{suc-mul, mul_assoc, mul-pos}
use Rattle.jser_decimal.specs.Bigs.{below}
use Rattle.jser_decimal.specs.Shortest.{Range, best, choice, next_is_nearer, reads_back}
use Rattle.uses_decimal.proofs.RangeLemmas.{IsBetween, IsOrdered, below_le, between, far, here_back, there_back}

-- the first is no farther from the middle, and where the other is as far, they are one or the first is a number of even steps
pub record IsBest (middle unit step here count : ℕ) : Type 0 where
  pub near : far middle (here * step * unit) ≤ far middle (count * step * unit)
  pub even : far middle (here * step * unit) ≡ far middle (count * step * unit) → here ≢ count → here % 2 ≡ 0

-- one step more is so many parts more
more_parts : (one other step unit : ℕ) → 0 < step * unit → one < other → one * step * unit + step * unit ≤ other * step * unit
more_parts one other step unit some less =
    let a : suc one * (step * unit) ≤ other * (step * unit) = mul-le (suc one) (step * unit) other (step * unit) less (omega arith) in
    let b : suc one * (step * unit) ≡ one * (step * unit) + step * unit = suc-mul one (step * unit) in
    let c = mul_assoc one step unit in
    let d = mul_assoc other step unit in
    omega (arith, a, b, c, d)

-- below the middle, more steps are nearer
best_below : (middle unit step steps count : ℕ) → 0 < step * unit → steps * step * unit ≤ middle → count ≤ steps → IsBest middle unit step steps count
best_below middle unit step steps count some here few = go (nat_lt count steps) refl
  where
    go : (x : Bool) → nat_lt count steps ≡ x → IsBest middle unit step steps count
    go true e =
        let far = more_parts count steps step unit some (grind (arith, nat_tests, e)) in
        record { near = omega (arith, far, here); even = λ same other. absurd (omega (arith, far, here, some, same)) }
    go false e =
        let is : steps ≡ count = grind (arith, nat_tests, e, few) in
        record { near = subst (λ n. far middle (steps * step * unit) ≤ far middle (n * step * unit)) is (omega arith); even = λ same other. absurd (other is) }

best_above : (middle unit step steps count : ℕ) → 0 < step * unit → middle ≤ steps * step * unit → steps ≤ count → IsBest middle unit step steps count
best_above middle unit step steps count some here few = go (nat_lt steps count) refl
  where
    go : (x : Bool) → nat_lt steps count ≡ x → IsBest middle unit step steps count
    go true e =
        let far = more_parts steps count step unit some (grind (arith, nat_tests, e)) in
        record { near = omega (arith, far, here); even = λ same other. absurd (omega (arith, far, here, some, same)) }
    go false e =
        let is : steps ≡ count = grind (arith, nat_tests, e, few) in
        record { near = subst (λ n. far middle (steps * step * unit) ≤ far middle (n * step * unit)) is (omega arith); even = λ same other. absurd (other is) }

best_then : (middle unit step one other count : ℕ) → IsBest middle unit step other count → far middle (one * step * unit) ≤ far middle (other * step * unit)
    → (far middle (one * step * unit) ≡ far middle (other * step * unit) → one % 2 ≡ 0) → IsBest middle unit step one count
best_then middle unit step one other count best near even =
    let far = best.near in
    record { near = omega (arith, far, near); even = λ same _. even (omega (arith, far, near, same)) }

-- which of two sums is smaller, and that ties count
tied : (ties : Bool) (a b : ℕ) → below ties a b ≡ true → a ≡ b → ties ≡ true
tied true a b e same = refl
tied false a b e same = absurd (grind (arith, nat_tests, e, same))

not_below : (ties : Bool) (a b : ℕ) → below ties a b ≡ false → b ≤ a
not_below true a b e = grind (arith, nat_tests, e)
not_below false a b e = grind (arith, nat_tests, e)

not_tied : (ties : Bool) (a b : ℕ) → below ties a b ≡ false → a ≡ b → ties ≡ false
not_tied true a b e same = absurd (grind (arith, nat_tests, e, same))
not_tied false a b e same = refl

odd_next : (steps : ℕ) → (steps % 2 == 1) ≡ true → (steps + 1) % 2 ≡ 0
odd_next steps e = let odd : steps % 2 ≡ 1 = grind (arith, nat_tests, e) in omega (arith, odd)

not_odd : (steps : ℕ) → (steps % 2 == 1) ≡ false → steps % 2 ≡ 0
not_odd steps e = let even : steps % 2 ≢ 1 = grind (arith, nat_tests, e) in omega (arith, even)

-- the one above is the nearer one
above_nearer : (range : Range) (step steps count : ℕ) → IsBetween range step steps → 0 < step * range.unit → next_is_nearer range step steps ≡ true
    → IsBest range.middle range.unit step (steps + 1) count
above_nearer range step steps count is some nearer = go (nat_le count steps) refl
  where
    go : (x : Bool) → nat_le count steps ≡ x → IsBest range.middle range.unit step (steps + 1) count
    go true e =
        let here = is.here in
        let there = is.there in
        let sum : (2 * steps + 1) * step * range.unit ≡ steps * step * range.unit + (steps + 1) * step * range.unit = grind arith in
        let less = below_le (steps % 2 == 1) ((2 * steps + 1) * step * range.unit) (range.middle * 2) nearer in
        best_then range.middle range.unit step (steps + 1) steps count (best_below range.middle range.unit step steps count some here (grind (arith, nat_tests, e)))
        (omega (arith, here, there, sum, less))
        (λ same. odd_next steps (tied (steps % 2 == 1) ((2 * steps + 1) * step * range.unit) (range.middle * 2) nearer (omega (arith, here, there, sum, same))))
    go false e =
        let there = is.there in
        best_above range.middle range.unit step (steps + 1) count some (omega (arith, there)) (grind (arith, nat_tests, e))

below_nearer : (range : Range) (step steps count : ℕ) → IsBetween range step steps → 0 < step * range.unit → next_is_nearer range step steps ≡ false
    → IsBest range.middle range.unit step steps count
below_nearer range step steps count is some nearer = go (nat_le count steps) refl
  where
    go : (x : Bool) → nat_le count steps ≡ x → IsBest range.middle range.unit step steps count
    go true e = best_below range.middle range.unit step steps count some is.here (grind (arith, nat_tests, e))
    go false e =
        let here = is.here in
        let there = is.there in
        let sum : (2 * steps + 1) * step * range.unit ≡ steps * step * range.unit + (steps + 1) * step * range.unit = grind arith in
        let less = not_below (steps % 2 == 1) ((2 * steps + 1) * step * range.unit) (range.middle * 2) nearer in
        best_then range.middle range.unit step steps (steps + 1) count
        (best_above range.middle range.unit step (steps + 1) count some (omega (arith, there)) (grind (arith, nat_tests, e)))
        (omega (arith, here, there, sum, less))
        (λ same. not_odd steps (not_tied (steps % 2 == 1) ((2 * steps + 1) * step * range.unit) (range.middle * 2) nearer (omega (arith, here, there, sum, same))))

-- only the one below reads back, so all that do are below the size
below_alone : (range : Range) (step steps count : ℕ) → IsOrdered range → IsBetween range step steps → 0 < step * range.unit → reads_back range (count * step) ≡ true
    → reads_back range ((steps + 1) * step) ≡ false → IsBest range.middle range.unit step steps count
below_alone range step steps count order is some back misses = go (nat_le count steps) refl
  where
    go : (x : Bool) → nat_le count steps ≡ x → IsBest range.middle range.unit step steps count
    go true e = best_below range.middle range.unit step steps count some is.here (grind (arith, nat_tests, e))
    go false e = let yes = there_back range step steps count order is (grind (arith, nat_tests, e)) back in absurd (grind (arith, yes, misses))

above_alone : (range : Range) (step steps count : ℕ) → IsOrdered range → IsBetween range step steps → 0 < step * range.unit → reads_back range (count * step) ≡ true
    → reads_back range (steps * step) ≡ false → IsBest range.middle range.unit step (steps + 1) count
above_alone range step steps count order is some back misses = go (nat_le count steps) refl
  where
    go : (x : Bool) → nat_le count steps ≡ x → IsBest range.middle range.unit step (steps + 1) count
    go true e = let yes = here_back range step steps count order is (grind (arith, nat_tests, e)) back in absurd (grind (arith, yes, misses))
    go false e =
        let there = is.there in
        best_above range.middle range.unit step (steps + 1) count some (omega (arith, there)) (grind (arith, nat_tests, e))

best_choice : (range : Range) (step steps s count : ℕ) → IsOrdered range → IsBetween range step steps → 0 < step * range.unit → reads_back range (count * step) ≡ true
    → (here there nearer : Bool) → reads_back range (steps * step) ≡ here → reads_back range ((steps + 1) * step) ≡ there → next_is_nearer range step steps ≡ nearer
    → choice here there nearer steps ≡ Some s → IsBest range.middle range.unit step s count
best_choice range step steps s count order is some back true true true a b c e =
    subst (λ s. IsBest range.middle range.unit step s count) (let z : steps + 1 ≡ s = grind (arith, e) in z) (above_nearer range step steps count is some c)
best_choice range step steps s count order is some back true true false a b c e =
    subst (λ s. IsBest range.middle range.unit step s count) (let z : steps ≡ s = grind (arith, e) in z) (below_nearer range step steps count is some c)
best_choice range step steps s count order is some back true false nearer a b c e =
    subst (λ s. IsBest range.middle range.unit step s count) (let z : steps ≡ s = grind (arith, e) in z) (below_alone range step steps count order is some back b)
best_choice range step steps s count order is some back false true nearer a b c e =
    subst (λ s. IsBest range.middle range.unit step s count) (let z : steps + 1 ≡ s = grind (arith, e) in z) (above_alone range step steps count order is some back a)
best_choice range step steps s count order is some back false false nearer a b c e = absurd (grind (arith, e))

-- the best is the best
pub best_best : (range : Range) (step s count : ℕ) → IsOrdered range → 0 < step → best range step ≡ Some s → reads_back range (count * step) ≡ true
    → IsBest range.middle range.unit step s count
best_best range step s count order some found back =
    let steps = range.middle / range.unit / step in
    best_choice range step steps s count order (between range step order.unit some) (mul-pos some order.unit) back
    (reads_back range (steps * step)) (reads_back range ((steps + 1) * step)) (next_is_nearer range step steps) refl refl refl found
