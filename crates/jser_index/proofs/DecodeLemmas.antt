-- The units of a text of bytes below 0x80, which are the bytes themselves, and lanes that find that out.
use Rattle.std.proofs.Common.{◌≡◌, ℕ, suc, ◌+◌, ◌<◌, ◌≤◌, Bool, true, false, List, [], ◌∷◌, ◌++◌, length, take, refl, sym, ◌∙◌, ap, subst, arith, slice_index_or, get_or, map, ◌-◌, ◌%◌, ◌^◌, leb, cond, inl, inr, length-take-le}
use Rattle.std.specs.Prelude.{nat_lt}
use Rattle.std.proofs.Math.Dec.{eqb}
use Rattle.std.proofs.lemmas.Bool.Decides.{nat_tests}
use Rattle.std.proofs.lemmas.Bool.{leb-false, eqb-true}
use Rattle.std.proofs.lemmas.Grind.{same_number_lists}
use Rattle.std.proofs.lemmas.Simd.{length-chunk, get_or-chunk, get_or-put_chunk_below, get_or-put_chunk_at, length-put_chunk, zip2_splat_left, tops_compared, mask_l-mod, none_from_empty_mask}
use Rattle.std.proofs.lemmas.List.{length-map, get_or-take}
use lib.Lanes.{chunk, put_chunk, zip2, mask_l, top}
use lib.ListN.{replicate}
use mir.Syntax.{w8}
use Rattle.jser_prim.specs.ModifiedUtf8.{IsUnits, modified_utf8}
use Rattle.jser_prim.proofs.TextLemmas.{units_head, units_tail}
use Rattle.jser_prim.proofs.Units.{form_of}
use Rattle.jser_index.specs.Decoding.{AreNarrow, Widens, Widened}

-- where each byte is below 0x80, the bytes are the units

abbrev pub Below : List ℕ → Type 0
Below bytes = (k : ℕ) → k < length bytes → slice_index_or bytes k 0 < 0x80

head_below : (bytes others : List ℕ) (b : ℕ) → bytes ≡ b ∷ others → Below bytes → b < 0x80
head_below bytes others b e h = let all : Below (b ∷ others) = subst Below e h in all 0 (omega arith)

tail_below : (bytes others : List ℕ) (b : ℕ) → bytes ≡ b ∷ others → Below bytes → Below others
tail_below bytes others b e h = λ k less. let all : Below (b ∷ others) = subst Below e h in all (suc k) (omega arith)

pub narrow_units : (told bytes : List ℕ) → IsUnits told → modified_utf8 told ≡ bytes → Below bytes → bytes ≡ told
narrow_units [] bytes are e below = sym e
narrow_units (u ∷ us) bytes are e below = elim (form_of u (units_head u us are)) [
  | inl one ↦
      let whole : bytes ≡ u ∷ modified_utf8 us = sym e ∙ ap (λ front. front ++ modified_utf8 us) one.spelled in
      whole
      ∙ ap (λ others. u ∷ others) (narrow_units us (modified_utf8 us) (units_tail u us are) refl (tail_below bytes (modified_utf8 us) u whole below))
  | inr wide ↦ elim wide [
    | inl two ↦
        let whole : bytes ≡ (0xC0 + two.high) ∷ ((0x80 + two.low) ∷ modified_utf8 us) =
        sym e ∙ ap (λ front. front ++ modified_utf8 us) two.spelled in
        absurd (omega (arith, head_below bytes ((0x80 + two.low) ∷ modified_utf8 us) (0xC0 + two.high) whole below))
    | inr three ↦
        let whole : bytes ≡ (0xE0 + three.high) ∷ ((0x80 + three.middle) ∷ ((0x80 + three.low) ∷ modified_utf8 us)) =
        sym e ∙ ap (λ front. front ++ modified_utf8 us) three.spelled in
        absurd (omega (arith, head_below bytes ((0x80 + three.middle) ∷ ((0x80 + three.low) ∷ modified_utf8 us)) (0xE0 + three.high) whole below))
  ]
]

pub narrow_text : (bytes room units : List ℕ) → AreNarrow bytes room → units ≡ take (length bytes) room
    → (told : List ℕ) → IsUnits told → modified_utf8 told ≡ bytes → units ≡ told
narrow_text bytes room units narrow is told are e = is ∙ narrow.units ∙ narrow_units told bytes are e narrow.narrow

-- ---- many bytes at once

same_lanes : (f : ℕ → ℕ) (xs : List ℕ) → ((x : ℕ) → f x ≡ x) → map f xs ≡ xs
same_lanes f [] is = refl
same_lanes f (x ∷ xs) is = ap (λ y. y ∷ map f xs) (is x) ∙ ap (λ ys. x ∷ ys) (same_lanes f xs is)

-- no lane is 0x80 or more
none_wide : (bytes : List ℕ) (at lanes : ℕ) → at + lanes ≤ length bytes → lanes ≤ 64
    → eqb (mask_l (map (top 7) (zip2 (λ a b. cond (leb a b) 255 0) (replicate lanes 128) (chunk at lanes bytes))) % 2 ^ 64) 0 ≡ true
    → (k : ℕ) → at ≤ k → k < at + lanes → get_or bytes k 0 < 0x80
none_wide bytes at lanes room few none k from to =
    let v = chunk at lanes bytes in
    let long = length-chunk at lanes bytes room in
    let tests = tops_compared w8 leb (replicate lanes 128) v ∙ zip2_splat_left leb 128 lanes v long in
    let empty : mask_l (map (λ b. leb 128 b) v) ≡ 0 =
    sym (mask_l-mod (map (λ b. leb 128 b) v) 64 (omega (arith, length-map v (λ b. leb 128 b), long))) ∙ ap (λ ms. mask_l ms % 2 ^ 64) (sym tests) ∙ eqb-true _ 0 none in
    leb-false 128 (get_or bytes k 0) (none_from_empty_mask (λ b. leb 128 b) bytes at lanes 0 room empty k from to)

pub widens : (lanes : ℕ) (bytes room : List ℕ) (at : ℕ) (f : ℕ → ℕ) → at + lanes ≤ length bytes → at + lanes ≤ length room → lanes ≤ 64 → ((x : ℕ) → f x ≡ x)
    → Widens lanes bytes at (eqb (mask_l (map (top 7) (zip2 (λ a b. cond (leb a b) 255 0) (replicate lanes 128) (chunk at lanes bytes))) % 2 ^ 64) 0)
    room (put_chunk at room (map f (chunk at lanes bytes)))
widens lanes bytes room at f enough place few is =
    let units = map f (chunk at lanes bytes) in
    let long = length-chunk at lanes bytes enough in
    let count = length-map (chunk at lanes bytes) f in
    record {
      size = length-put_chunk at room units;
      before = λ k less. get_or-put_chunk_below at room units k 0 less;
      units = λ k from to.
          let e : k ≡ at + (k - at) = omega arith in
          let less : k - at < lanes = omega arith in
          ap (λ n. get_or (put_chunk at room units) n 0) e ∙ get_or-put_chunk_at at room units (k - at) 0 (omega arith) (omega arith)
          ∙ ap (λ us. get_or us (k - at) 0) (same_lanes f (chunk at lanes bytes) is) ∙ get_or-chunk at lanes bytes (k - at) 0 less ∙ ap (λ n. get_or bytes n 0) (sym e);
      below = λ none. none_wide bytes at lanes enough few none;
    }

-- all of them were put

pub all_widened : (bytes room : List ℕ) → length bytes ≤ length room → Widened bytes room (length bytes) → AreNarrow bytes room
all_widened bytes room enough h =
    let long = length-take-le (length bytes) room enough in record {
      units =
          same_number_lists (take (length bytes) room) bytes long
          (λ k less. let within : k < length bytes = omega arith in get_or-take (length bytes) room k 0 within ∙ h.units k within);
      narrow = h.below;
    }

pub more_widened : (bytes old new : List ℕ) (count at lanes to : ℕ) (narrow : Bool) → Widened bytes old count → Widens lanes bytes at narrow old new → narrow ≡ true
    → at ≤ count → to ≡ at + lanes → Widened bytes new to
more_widened bytes old new count at lanes to narrow h w is le e = record {
  units = λ k less. units_at k less (nat_lt k at) refl;
  below = λ k less. below_at k less (nat_lt k at) refl;
}
  where
    units_at : (k : ℕ) → k < to → (x : Bool) → nat_lt k at ≡ x → slice_index_or new k 0 ≡ slice_index_or bytes k 0
    units_at k less true t = let before : k < at = grind (arith, nat_tests) in w.before k before ∙ h.units k (omega arith)
    units_at k less false t = let after : at ≤ k = grind (arith, nat_tests) in w.units k after (omega arith)

    below_at : (k : ℕ) → k < to → (x : Bool) → nat_lt k at ≡ x → slice_index_or bytes k 0 < 0x80
    below_at k less true t = let before : k < at = grind (arith, nat_tests) in h.below k (omega arith)
    below_at k less false t = let after : at ≤ k = grind (arith, nat_tests) in w.below is k after (omega arith)

pub none_widened : (bytes room : List ℕ) → Widened bytes room 0
none_widened bytes room = record { units = λ k less. absurd (omega arith); below = λ k less. absurd (omega arith) }
