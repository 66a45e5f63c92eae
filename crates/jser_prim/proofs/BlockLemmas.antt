-- From a load whose bytes are within their ranges to the units that they spell.
use Rattle.std.proofs.Common.{◌≡◌, ℕ, ◌+◌, ◌-◌, ◌*◌, ◌/◌, ◌%◌, ◌^◌, ◌<◌, ◌≤◌, Bool, true, false, cond, eqb, ltb, eqb-true, List, map, length, get_or, Fits, w8, refl, sym, ap, subst, ◌∙◌, arith}
use Rattle.std.proofs.lemmas.Bool.{agree_below, agree_below_at, ltb-false}
use Rattle.std.proofs.lemmas.Simd.{bit_mask_l, get_or-chunk, get_or-zip2, length-chunk, length-zip2, mask_l-mod, tops_compared}
use Rattle.std.proofs.Math.Nat.{zero-div}
use lib.Lanes.{chunk, mask_l, top, zip2}
use Rattle.jser_prim.specs.WholeUnits.{AreUnitsBetween, IsWithinLanes}
use Rattle.jser_prim.specs.declared.blocks.TheConstants.{LOW_THREES_LEAST, LOW_THREES_SPAN, THREES_LEAST, THREES_SPAN, TWOS_LEAST, TWOS_SPAN}
use Rattle.jser_prim.proofs.RunLemmas.{three_are_spelled, threes_between, two_are_spelled, twos_between}

-- the difference of two bytes, modulo 256
abbrev pub less : ℕ → ℕ → ℕ
less a b = (a + (256 - b)) % 256

-- where no bit of the mask is set, no byte is above its span
pub within_lanes : (bytes least span : List ℕ) (at : ℕ) → at + 16 ≤ length bytes → length least ≡ 16 → length span ≡ 16
    → mask_l (map (top 7) (zip2 (λ a b. cond (ltb a b) 255 0) span (zip2 less (chunk at 16 bytes) least))) % 2 ^ 64 ≡ 0 → IsWithinLanes bytes at least span
within_lanes bytes least span at room ll ls none k inside =
    let v = chunk at 16 bytes in
    let long = length-chunk at 16 bytes room in
    let d = zip2 less v least in
    let long_d : length d ≡ 16 = length-zip2 less v least (long ∙ sym ll) ∙ long in
    let m = zip2 ltb span d in
    let long_m : length m ≡ 16 = length-zip2 ltb span d (ls ∙ sym long_d) ∙ ls in
    let none_set : mask_l m ≡ 0 = sym (mask_l-mod m 64 (omega (arith, long_m))) ∙ ap (λ l. mask_l l % 2 ^ 64) (sym (tops_compared w8 ltb span d)) ∙ none in
    let bit : mask_l m / 2 ^ k % 2 ≡ 0 = ap (λ n. n / 2 ^ k % 2) none_set ∙ ap (λ n. n % 2) (zero-div (2 ^ k)) in
    let lane : get_or m k false ≡ ltb (get_or span k 0) (less (get_or bytes (at + k) 0) (get_or least k 0)) =
    get_or-zip2 ltb span d k 0 0 false (omega (arith, ls)) (omega (arith, long_d))
    ∙ ap (ltb (get_or span k 0)) (get_or-zip2 less v least k 0 0 0 (omega (arith, long)) (omega (arith, ll)) ∙ ap (λ b. less b (get_or least k 0)) (get_or-chunk at 16 bytes k 0 inside)) in
    ltb-false _ _ (sym lane ∙ unset (get_or m k false) _ (bit_mask_l m k) bit)
  where
    unset : (b : Bool) (bit : ℕ) → bit ≡ cond b 1 0 → bit ≡ 0 → b ≡ false
    unset true bit is none = absurd (omega arith)
    unset false bit is none = refl

-- a row of a load's bounds has this value at each of its first `n` places
abbrev repeats : List ℕ → ℕ → ℕ → ℕ → ℕ → Bool
repeats row step offset n value = agree_below (λ k. eqb (get_or row (step * k + offset) 0) value) (λ _. true) n

-- the range of a byte
record Within (low width byte : ℕ) : Type 0 where
  least : low ≤ byte
  most : byte ≤ low + width

module _ (bytes least span : List ℕ) (at : ℕ) (fits : (k : ℕ) → Fits w8 (get_or bytes k 0)) (lanes : IsWithinLanes bytes at least span) where
  within : (step offset n low width : ℕ) → repeats least step offset n low ≡ true → repeats span step offset n width ≡ true → low + width < 256
      → (k place : ℕ) → k < n → step * k + offset < 16 → place ≡ at + (step * k + offset) → Within low width (get_or bytes place 0)
  within step offset n low width lows widths small k place inside room here =
      let l : get_or least (step * k + offset) 0 ≡ low = eqb-true _ _ (agree_below_at (λ k. eqb (get_or least (step * k + offset) 0) low) (λ _. true) n k lows inside) in
      let w : get_or span (step * k + offset) 0 ≡ width = eqb-true _ _ (agree_below_at (λ k. eqb (get_or span (step * k + offset) 0) width) (λ _. true) n k widths inside) in
      let test = lanes (step * k + offset) room in
      let byte = (fits (at + (step * k + offset))).fits in
      subst (λ p. Within low width (get_or bytes p 0)) (sym here) (record { least = omega (arith, l, w, test, byte); most = omega (arith, l, w, test, byte) })

  -- units of three bytes, by the ranges of their first and second bytes
  five : (first first_span second second_span : ℕ) → at + 16 ≤ length bytes → repeats least 3 0 5 first ≡ true → repeats span 3 0 5 first_span ≡ true
      → repeats least 3 1 5 second ≡ true → repeats span 3 1 5 second_span ≡ true → repeats least 3 2 5 0x80 ≡ true → repeats span 3 2 5 0x3F ≡ true
      → 0xE0 ≤ first → first + first_span < 0xF0 → 0x80 ≤ second → second + second_span < 0xC0 → (first ≡ 0xE0 → 0xA0 ≤ second) → AreUnitsBetween bytes at (at + 15)
  five first first_span second second_span room fl fs sl ss tl ts f f' s s' long =
      threes_between bytes at 5 (omega arith) (λ k inside.
      let a = within 3 0 5 first first_span fl fs (omega arith) k (at + 3 * k) inside (omega arith) (omega arith) in
      let b = within 3 1 5 second second_span sl ss (omega arith) k (at + 3 * k + 1) inside (omega arith) (omega arith) in
      let c = within 3 2 5 0x80 0x3F tl ts (omega arith) k (at + 3 * k + 2) inside (omega arith) (omega arith) in
      three_are_spelled _ _ _ (omega (arith, a.least)) (omega (arith, a.most)) (omega (arith, b.least)) (omega (arith, b.most))
      (λ e. let least = long (omega (arith, e, a.least)) in omega (arith, least, b.least)) c.least (omega (arith, c.most)))

pub eight_twos : (bytes : List ℕ) (at : ℕ) → at + 16 ≤ length bytes → ((k : ℕ) → Fits w8 (get_or bytes k 0)) → IsWithinLanes bytes at TWOS_LEAST TWOS_SPAN → AreUnitsBetween bytes at (at + 16)
eight_twos bytes at room fits lanes =
    twos_between bytes at 8 (omega arith) (λ k inside.
    let a = within bytes TWOS_LEAST TWOS_SPAN at fits lanes 2 0 8 0xC2 0x1D refl refl (omega arith) k (at + 2 * k) inside (omega arith) (omega arith) in
    let b = within bytes TWOS_LEAST TWOS_SPAN at fits lanes 2 1 8 0x80 0x3F refl refl (omega arith) k (at + 2 * k + 1) inside (omega arith) (omega arith) in
    two_are_spelled _ _ (omega (arith, a.least)) (omega (arith, a.most)) (λ e. omega (arith, e, a.least)) b.least (omega (arith, b.most)) (λ e. omega (arith, e, a.least)))

pub five_low_threes : (bytes : List ℕ) (at : ℕ) → at + 16 ≤ length bytes → ((k : ℕ) → Fits w8 (get_or bytes k 0)) → IsWithinLanes bytes at LOW_THREES_LEAST LOW_THREES_SPAN → AreUnitsBetween bytes at (at + 15)
five_low_threes bytes at room fits lanes =
    five bytes LOW_THREES_LEAST LOW_THREES_SPAN at fits lanes 0xE0 0x00 0xA0 0x1F room refl refl refl refl refl refl (omega arith) (omega arith) (omega arith) (omega arith) (λ _. omega arith)

pub five_threes : (bytes : List ℕ) (at : ℕ) → at + 16 ≤ length bytes → ((k : ℕ) → Fits w8 (get_or bytes k 0)) → IsWithinLanes bytes at THREES_LEAST THREES_SPAN → AreUnitsBetween bytes at (at + 15)
five_threes bytes at room fits lanes =
    five bytes THREES_LEAST THREES_SPAN at fits lanes 0xE1 0x0E 0x80 0x3F room refl refl refl refl refl refl (omega arith) (omega arith) (omega arith) (omega arith) (λ e. omega (arith, e))
