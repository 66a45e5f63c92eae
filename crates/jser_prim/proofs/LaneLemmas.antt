-- From the mask of one load to the bytes that it speaks of.
use Rattle.std.proofs.Common.{◌≡◌, ℕ, ◌+◌, ◌%◌, ◌^◌, ◌<◌, ◌≤◌, Bool, true, false, not, ◌&&◌, ◌||◌, List, map, length, get_or, Fits, w8, refl, sym, ap, ◌∙◌, arith, rules, tests}
use Rattle.std.specs.Prelude.{nat_le, nat_lt, slice_index}
use Rattle.std.proofs.lemmas.Bool.Decides.{nat_tests}
use Rattle.std.proofs.lemmas.Bool.{agree_below, agree_below_at}
use Rattle.std.proofs.lemmas.Simd.{first_set_mask_l, length-chunk, map-map, mask_l-mod, run_in_chunk_fails, run_in_chunk_le}
use Rattle.std.proofs.lemmas.List.{length-map}
use Rattle.std.specs.List.{prefix_len}
use lib.Lanes.{chunk, mask_l, top}
use Rattle.jser_prim.specs.WholeUnits.{IsAsciiBetween, first_set}

-- a unit of one byte
abbrev pub is_ascii : ℕ → Bool
is_ascii b = nat_le 1 b && nat_lt b 0x80

ascii_means : (b : ℕ) → is_ascii b ≡ true → (1 ≤ b) × (b < 0x80)
ascii_means b test = (search (rules, tests), search (rules, tests))

-- a run, and one that begins within it or just after it
pub ascii_joined : (bytes : List ℕ) (start a b c : ℕ) → IsAsciiBetween bytes start a → IsAsciiBetween bytes b c → b ≤ a → IsAsciiBetween bytes start c
ascii_joined bytes start a b c first second le = λ k from to. go k from to (nat_lt k a) refl
  where
    go : (k : ℕ) → start ≤ k → k < c → (x : Bool) → nat_lt k a ≡ x → (1 ≤ slice_index bytes k) × (slice_index bytes k < 0x80)
    go k from to true e = let before : k < a = grind (arith, nat_tests) in first k from before
    go k from to false e = let after : a ≤ k = grind (arith, nat_tests) in second k (omega arith) to

module _ (bytes : List ℕ) (at lanes run : ℕ) (mask : List ℕ) (room : at + lanes ≤ length bytes) (few : lanes ≤ 64)
    (fits : (k : ℕ) → Fits w8 (get_or bytes k 0)) (found : run ≡ first_set (mask_l (map (top 7) mask) % 2 ^ 64) lanes)
    (f : ℕ → ℕ) (lane : mask ≡ map f (chunk at lanes bytes)) where
  -- the test whether a lane stops
  abbrev stops : ℕ → Bool
  stops b = top 7 (f b)

  counted : run ≡ prefix_len (λ b. not (stops b)) (chunk at lanes bytes)
  counted =
      let v = chunk at lanes bytes in
      let long = length-chunk at lanes bytes room in
      let bits = ap (λ l. mask_l l % 2 ^ 64) (ap (map (top 7)) lane ∙ map-map (top 7) f v) ∙ mask_l-mod (map stops v) 64 (omega (arith, length-map v stops, long)) in
      found ∙ ap (λ m. first_set m lanes) bits ∙ first_set_mask_l stops v lanes long few

  -- a run is no longer than the load
  pub run_within : run ≤ lanes
  run_within = run_in_chunk_le stops bytes at lanes run 0 room counted

  -- the bytes of the run, where each byte at which no lane stops is a unit of one byte
  pub run_is_ascii : agree_below (λ b. stops b || is_ascii b) (λ _. true) 256 ≡ true → IsAsciiBetween bytes at (at + run)
  run_is_ascii all = λ k from to.
      let goes = run_in_chunk_fails stops bytes at lanes run 0 room counted k from to in
      let ascii : is_ascii (get_or bytes k 0) ≡ true = sym (ap (λ b. b || is_ascii (get_or bytes k 0)) goes) ∙ agree_below_at (λ b. stops b || is_ascii b) (λ _. true) 256 (get_or bytes k 0) all (fits k).fits in
      ascii_means (get_or bytes k 0) ascii
