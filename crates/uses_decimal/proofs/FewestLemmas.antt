-- Which of the decimals is taken.
use Rattle.std.proofs.Common.{◌≡◌, ◌<◌, ◌≤◌, ℕ, suc, zero, ◌+◌, ◌-◌, ◌*◌, ◌^◌, ◌/◌, ◌∙◌, ap, sym, refl, subst, ◌%◌, Bool, true, false, Option, Some, None, ◌⊎◌, inl, inr, arith}
use Rattle.std.specs.Prelude.{nat_le, nat_lt, ◌≢◌}
use Rattle.std.proofs.lemmas.Bool.Decides.{nat_tests}
use Rattle.std.proofs.lemmas.Nat.{pow-add}
use Rattle.std.proofs.Math.Nat.{mul-mod_left, mul-div_left, mul_assoc}
use Rattle.jser_decimal.specs.Bigs.{below}
use Rattle.jser_decimal.specs.Shortest.{Range, best, choice, fewest, next_is_nearer, or_else, reads_back}
use Rattle.uses_decimal.specs.Meaning.{LeavesNoMore, distance}
use Rattle.uses_decimal.proofs.RangeLemmas.{IsBetween, IsOrdered, between, both_true, here_back, lt_below, power_is_some, there_back}
use Rattle.uses_decimal.proofs.NearestLemmas.{IsBest, best_best}

-- ---- the best of two

-- what one of the two is, if one reads back
choice_none : (here there nearer : Bool) (steps : ℕ) → choice here there nearer steps ≡ None → (here ≡ false) × (there ≡ false)
choice_none true true nearer steps e = absurd (grind (arith, e))
choice_none true false nearer steps e = absurd (grind (arith, e))
choice_none false true nearer steps e = absurd (grind (arith, e))
choice_none false false nearer steps e = (refl, refl)

choice_some : (range : Range) (step steps s : ℕ) (here there nearer : Bool) → reads_back range (steps * step) ≡ here → reads_back range ((steps + 1) * step) ≡ there
    → choice here there nearer steps ≡ Some s → reads_back range (s * step) ≡ true
choice_some range step steps s true true true a b e = subst (λ s. reads_back range (s * step) ≡ true) (let z : steps + 1 ≡ s = grind (arith, e) in z) b
choice_some range step steps s true true false a b e = subst (λ s. reads_back range (s * step) ≡ true) (let z : steps ≡ s = grind (arith, e) in z) a
choice_some range step steps s true false nearer a b e = subst (λ s. reads_back range (s * step) ≡ true) (let z : steps ≡ s = grind (arith, e) in z) a
choice_some range step steps s false true nearer a b e = subst (λ s. reads_back range (s * step) ≡ true) (let z : steps + 1 ≡ s = grind (arith, e) in z) b
choice_some range step steps s false false nearer a b e = absurd (grind (arith, e))

best_back : (range : Range) (step s : ℕ) → best range step ≡ Some s → reads_back range (s * step) ≡ true
best_back range step s e =
    let steps = range.middle / range.unit / step in
    choice_some range step steps s (reads_back range (steps * step)) (reads_back range ((steps + 1) * step)) (next_is_nearer range step steps) refl refl e

-- where a number of such steps reads back, there is a best one
best_is : (range : Range) (step count : ℕ) → IsOrdered range → 0 < step → reads_back range (count * step) ≡ true → best range step ≢ None
best_is range step count order some back none = go (nat_le count steps) refl
  where
    steps : ℕ
    steps = range.middle / range.unit / step

    is : IsBetween range step (range.middle / range.unit / step)
    is = between range step order.unit some

    neither : (reads_back range (range.middle / range.unit / step * step) ≡ false) × (reads_back range ((range.middle / range.unit / step + 1) * step) ≡ false)
    neither = choice_none (reads_back range (range.middle / range.unit / step * step)) (reads_back range ((range.middle / range.unit / step + 1) * step))
        (next_is_nearer range step (range.middle / range.unit / step)) (range.middle / range.unit / step) none

    go : (x : Bool) → nat_le count (range.middle / range.unit / step) ≡ x → ⊥
    go true e =
        let yes = here_back range step (range.middle / range.unit / step) count order is (grind (arith, nat_tests, e)) back in
        let no = neither.0 in
        grind (arith, yes, no)
    go false e =
        let yes = there_back range step (range.middle / range.unit / step) count order is (grind (arith, nat_tests, e)) back in
        let no = neither.1 in
        grind (arith, yes, no)

-- ---- the first step at which there is one

-- these are taken: the best at the first step that has one
record Taken (range : Range) (most units : ℕ) : Type 0 where
  more : ℕ
  steps : ℕ
  within : more ≤ most
  found : best range (10 ^ more) ≡ Some steps
  is : units ≡ steps * 10 ^ more
  before : (j : ℕ) → more < j → j ≤ most → best range (10 ^ j) ≡ None

abbrev NoneAt : Range → ℕ → Type 0
NoneAt range most = (j : ℕ) → j ≤ most → best range (10 ^ j) ≡ None

last_none : (range : Range) (most : ℕ) → best range (10 ^ suc most) ≡ None → (j : ℕ) → j ≤ suc most → (j ≤ most → best range (10 ^ j) ≡ None) → best range (10 ^ j) ≡ None
last_none range most e j le known = at (nat_le j most) refl
  where
    at : (x : Bool) → nat_le j most ≡ x → best range (10 ^ j) ≡ None
    at true t = known (grind (arith, nat_tests, t))
    at false t = subst (λ j. best range (10 ^ j) ≡ None) (let z : suc most ≡ j = grind (arith, nat_tests, t, le) in z) e

taken_next : (range : Range) (most : ℕ) (o : Option ℕ) → best range (10 ^ suc most) ≡ o → Taken range most (fewest range most) ⊎ NoneAt range most
    → Taken range (suc most) (or_else (10 ^ suc most) o (fewest range most)) ⊎ NoneAt range (suc most)
taken_next range most (Some steps) e rest =
    inl (record { more = suc most; steps = steps; within = omega arith; found = e; is = refl; before = λ j from to. absurd (omega (arith, from, to)) })
taken_next range most None e (inl t) =
    let within = t.within in
    inl (record {
      more = t.more;
      steps = t.steps;
      within = omega (arith, within);
      found = t.found;
      is = t.is;
      before = λ j from to. last_none range most e j to (t.before j from);
    })
taken_next range most None e (inr none) = inr (λ j le. last_none range most e j le (none j))

taken : (range : Range) (most : ℕ) → Taken range most (fewest range most) ⊎ NoneAt range most
taken range zero = go (best range 1) refl
  where
    go : (o : Option ℕ) → best range 1 ≡ o → Taken range 0 (or_else 1 o (range.middle / range.unit)) ⊎ NoneAt range 0
    go (Some steps) e = inl (record { more = 0; steps = steps; within = omega arith; found = e; is = refl; before = λ j from to. absurd (omega (arith, from, to)) })
    go None e = inr (λ j le. subst (λ j. best range (10 ^ j) ≡ None) (let z : 0 ≡ j = omega (arith, le) in z) e)
taken range (suc most) = taken_next range most (best range (10 ^ suc most)) refl (taken range most)

-- ---- what is taken

-- where a unit is less than what lies between the points half way, one of the two decimals around the size reads back
one_of_two : (range : Range) → IsOrdered range → range.low + range.unit < range.high → best range 1 ≢ None
one_of_two range order narrow none = go (nat_lt range.low (steps * 1 * range.unit)) refl
  where
    steps : ℕ
    steps = range.middle / range.unit / 1

    neither : (reads_back range (range.middle / range.unit / 1 * 1) ≡ false) × (reads_back range ((range.middle / range.unit / 1 + 1) * 1) ≡ false)
    neither = choice_none (reads_back range (range.middle / range.unit / 1 * 1)) (reads_back range ((range.middle / range.unit / 1 + 1) * 1))
        (next_is_nearer range 1 (range.middle / range.unit / 1)) (range.middle / range.unit / 1) none

    is : IsBetween range 1 (range.middle / range.unit / 1)
    is = between range 1 order.unit (omega arith)

    go : (x : Bool) → nat_lt range.low (range.middle / range.unit / 1 * 1 * range.unit) ≡ x → ⊥
    go true e =
        let parts = range.middle / range.unit / 1 * 1 * range.unit in
        let here = is.here in
        let high = order.high in
        let yes : reads_back range (range.middle / range.unit / 1 * 1) ≡ true =
        both_true (below range.ends range.low parts) (below range.ends parts range.high) (lt_below range.ends range.low parts (grind (arith, nat_tests, e)))
        (lt_below range.ends parts range.high (omega (arith, here, high))) in
        let not = neither.0 in
        grind (arith, yes, not)
    go false e =
        let count = range.middle / range.unit / 1 in
        let parts = (count + 1) * 1 * range.unit in
        let there = is.there in
        let low = order.low in
        let far : count * 1 * range.unit ≤ range.low = grind (arith, nat_tests, e) in
        let next : (count + 1) * 1 * range.unit ≡ count * 1 * range.unit + range.unit = grind arith in
        let yes : reads_back range ((count + 1) * 1) ≡ true =
        both_true (below range.ends range.low parts) (below range.ends parts range.high) (lt_below range.ends range.low parts (omega (arith, there, low)))
        (lt_below range.ends parts range.high (omega (arith, far, next, narrow))) in
        let not = neither.1 in
        grind (arith, yes, not)

pub has_back : (range : Range) → IsOrdered range → range.low + range.unit < range.high → reads_back range (fewest range 15) ≡ true
has_back range order narrow = from (taken range 15)
  where
    from : Taken range 15 (fewest range 15) ⊎ NoneAt range 15 → reads_back range (fewest range 15) ≡ true
    from (inl t) = subst (λ n. reads_back range n ≡ true) (sym t.is) (best_back range (10 ^ t.more) t.steps t.found)
    from (inr none) = absurd (one_of_two range order narrow (none 0 (omega arith)))

-- a number of great steps is one of smaller steps
multiple : (steps more less : ℕ) → less ≤ more → steps * 10 ^ more % 10 ^ less ≡ 0
multiple steps more less le =
    let a : 10 ^ more ≡ 10 ^ (more - less) * 10 ^ less = ap (λ n. 10 ^ n) (omega (arith, le)) ∙ pow-add 10 (more - less) less in
    ap (λ n. steps * n % 10 ^ less) a ∙ ap (λ n. n % 10 ^ less) (sym (mul_assoc steps (10 ^ (more - less)) (10 ^ less))) ∙ mul-mod_left (steps * 10 ^ (more - less)) (10 ^ less)

pub has_fewest : (range : Range) → IsOrdered range → (more count : ℕ) → more ≤ 15 → reads_back range (count * 10 ^ more) ≡ true → fewest range 15 % 10 ^ more ≡ 0
has_fewest range order more count few back = from (taken range 15)
  where
    from : Taken range 15 (fewest range 15) ⊎ NoneAt range 15 → fewest range 15 % 10 ^ more ≡ 0
    from (inl t) = go (nat_le more t.more) refl
      where
        go : (x : Bool) → nat_le more t.more ≡ x → fewest range 15 % 10 ^ more ≡ 0
        go true e = ap (λ n. n % 10 ^ more) t.is ∙ multiple t.steps t.more more (grind (arith, nat_tests, e))
        go false e = absurd (best_is range (10 ^ more) count order (power_is_some more) back (t.before more (grind (arith, nat_tests, e)) few))
    from (inr none) = absurd (best_is range (10 ^ more) count order (power_is_some more) back (none more few))

-- it was taken at this step
record IsTakenAt (range : Range) (units more count : ℕ) : Type 0 where
  steps : ℕ
  is : units ≡ steps * 10 ^ more
  best : IsBest range.middle range.unit (10 ^ more) steps count

taken_at : (range : Range) (more count : ℕ) → IsOrdered range → LeavesNoMore (fewest range 15) more → reads_back range (count * 10 ^ more) ≡ true
    → IsTakenAt range (fewest range 15) more count
taken_at range more count order last back = from (taken range 15)
  where
    from : Taken range 15 (fewest range 15) ⊎ NoneAt range 15 → IsTakenAt range (fewest range 15) more count
    from (inl t) = go (nat_le t.more more) (nat_le more t.more) refl refl
      where
        go : (x y : Bool) → nat_le t.more more ≡ x → nat_le more t.more ≡ y → IsTakenAt range (fewest range 15) more count
        go true true e f =
            let same : t.more ≡ more = grind (arith, nat_tests, e, f) in
            record {
              steps = t.steps;
              is = subst (λ m. fewest range 15 ≡ t.steps * 10 ^ m) same t.is;
              best = best_best range (10 ^ more) t.steps count order (power_is_some more) (subst (λ m. best range (10 ^ m) ≡ Some t.steps) same t.found) back;
            }
        go true false e f = absurd (best_is range (10 ^ more) count order (power_is_some more) back (t.before more (grind (arith, nat_tests, f)) last.0))
        go false y e f =
            let within = t.within in
            absurd (last.1 (grind (arith, nat_tests, e, within)) (ap (λ n. n % 10 ^ (more + 1)) t.is ∙ multiple t.steps t.more (more + 1) (grind (arith, nat_tests, e))))
    from (inr none) = absurd (best_is range (10 ^ more) count order (power_is_some more) back (none more last.0))

pub has_nearest : (range : Range) → IsOrdered range → (more count : ℕ) → LeavesNoMore (fewest range 15) more → reads_back range (count * 10 ^ more) ≡ true
    → distance range (fewest range 15) ≤ distance range (count * 10 ^ more)
has_nearest range order more count last back =
    let t = taken_at range more count order last back in
    subst (λ n. distance range n ≤ distance range (count * 10 ^ more)) (sym t.is) t.best.near

pub has_even : (range : Range) → IsOrdered range → (more count : ℕ) → LeavesNoMore (fewest range 15) more → reads_back range (count * 10 ^ more) ≡ true
    → distance range (fewest range 15) ≡ distance range (count * 10 ^ more) → fewest range 15 ≢ count * 10 ^ more → fewest range 15 / 10 ^ more % 2 ≡ 0
has_even range order more count last back same other =
    let t = taken_at range more count order last back in
    ap (λ n. n / 10 ^ more % 2) t.is ∙ ap (λ n. n % 2) (mul-div_left t.steps (power_is_some more))
    ∙ t.best.even (ap (λ n. distance range n) (sym t.is) ∙ same) (λ e. other (t.is ∙ ap (λ n. n * 10 ^ more) e))
