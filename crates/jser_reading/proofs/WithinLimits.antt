-- A gate's limits, asked token by token, hold exactly where the counts and the names of the list are within them.
use Rattle.std.proofs.Common.{ℕ, ◌≤◌, List, [], ◌∷◌, sym, subst, arith, IsTrue}
use Rattle.jser_reading.proofs.Vocabulary.{ContentTrees, WellFormed, tokens_of}
use Rattle.jser_grammar.specs.Counts.{epoch_handles}
use Rattle.jser_reading.specs.GateLimits.{GateLimits, Each, IsWithin, Limited}
use Rattle.jser_reading.proofs.Observed.{IsObserved, observed, observed_passes}
use Rattle.jser_reading.proofs.GatheredObserved.{lengths_observed, names_observed}
use Rattle.jser_reading.proofs.PlacesObserved.{depth_observed, places_observed}
use Rattle.jser_reading.proofs.HandlesObserved.{greatest, handles_observed}

each_below : (ns : List ℕ) (D : ℕ) → greatest ns ≤ D → Each (λ n. n ≤ D) ns
each_below [] D h = tt
each_below (n ∷ ns) D h = (omega arith, each_below ns D (omega arith))

below_each : (ns : List ℕ) (D : ℕ) → Each (λ n. n ≤ D) ns → greatest ns ≤ D
below_each [] D h = omega arith
below_each (n ∷ ns) D h = let a = h.0 in let r = below_each ns D h.1 in omega arith

within : (limits : GateLimits) (list : ContentTrees) → WellFormed list → IsObserved limits (tokens_of list) → IsWithin limits list
within limits list w o =
    let d = depth_observed list w in
    let p = places_observed list w in
    let t = handles_observed list w in
    let od = o.depth in
    let op = o.refs in
    let ot = o.handles in (
      omega arith,
      omega arith,
      subst (λ ns. Each (λ n. n ≤ limits.array) ns) (lengths_observed list w) o.array,
      each_below (epoch_handles list) limits.handles (omega arith),
      subst (λ ns. Each (λ n. IsTrue (limits.passes n)) ns) (names_observed list w) o.names,
    )

without : (limits : GateLimits) (list : ContentTrees) → WellFormed list → IsWithin limits list → IsObserved limits (tokens_of list)
without limits list w (d, p, a, t, n) =
    let ed = depth_observed list w in
    let ep = places_observed list w in
    let et = handles_observed list w in
    let bt = below_each (epoch_handles list) limits.handles t in
    record {
      depth = omega arith;
      refs = omega arith;
      array = subst (λ ns. Each (λ n. n ≤ limits.array) ns) (sym (lengths_observed list w)) a;
      handles = omega arith;
      names = subst (λ ns. Each (λ n. IsTrue (limits.passes n)) ns) (sym (names_observed list w)) n;
    }

pub limited_law : Limited
limited_law limits list w = (
  λ h. within limits list w (observed limits (tokens_of list) h),
  λ h. observed_passes limits (tokens_of list)
      (without limits list w h),
)
