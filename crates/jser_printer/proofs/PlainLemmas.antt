-- Bytes that stand for themselves.
use Rattle.std.proofs.Common.{◌≡◌, ℕ, ◌+◌, ◌<◌, List, [], ◌∷◌, ◌++◌, Bool, true, false, zero, suc, ◌≤◌, length, take, get_or, refl, sym, ap, ◌∙◌, arith}
use Rattle.std.specs.Prelude.{nat_lt, slice_index}
use Rattle.std.specs.List.{flat_map}
use Rattle.std.proofs.lemmas.List.{take_more, flat_map_more}
use Rattle.std.proofs.lemmas.Bool.Decides.{nat_tests}
use Rattle.jser_shown.specs.Words.{quoted_unit}
use Rattle.jser_printer.specs.Plain.{ArePlain}

-- a byte more
pub quoted_more : (bytes : List ℕ) (i byte : ℕ) → flat_map quoted_unit (take i bytes) ≡ take i bytes → i < length bytes → byte ≡ get_or bytes i 0
    → quoted_unit byte ≡ byte ∷ [] → flat_map quoted_unit (take (i + 1) bytes) ≡ take (i + 1) bytes
quoted_more bytes i byte so inside is plain =
    ap (flat_map quoted_unit) (take_more bytes i 0 inside)
    ∙ sym (flat_map_more quoted_unit [] (take i bytes) (get_or bytes i 0))
    ∙ ap (λ r. r ++ quoted_unit (get_or bytes i 0)) so
    ∙ ap (λ u. take i bytes ++ u) (ap quoted_unit (sym is) ∙ plain ∙ ap (λ b. b ∷ []) is)
    ∙ sym (take_more bytes i 0 inside)

pub ascii_more : (bytes : List ℕ) (i byte : ℕ) → ((k : ℕ) → k < i → slice_index bytes k < 0x80) → byte ≡ slice_index bytes i → byte < 0x80
    → (k : ℕ) → k < i + 1 → slice_index bytes k < 0x80
ascii_more bytes i byte so is small = λ k less. go k less (nat_lt k i) refl
  where
    go : (k : ℕ) → k < i + 1 → (x : Bool) → nat_lt k i ≡ x → slice_index bytes k < 0x80
    go k less true e = so k (grind (arith, nat_tests))
    go k less false e = let last : k ≡ i = grind (arith, nat_tests) in omega (arith, small, is, ap (slice_index bytes) last)

take_whole : (bytes : List ℕ) (n : ℕ) → length bytes ≤ n → take n bytes ≡ bytes
take_whole [] zero le = refl
take_whole [] (suc n) le = refl
take_whole (b ∷ bytes) zero le = absurd (omega arith)
take_whole (b ∷ bytes) (suc n) le = ap (λ xs. b ∷ xs) (take_whole bytes n (omega arith))

-- all bytes
pub plain_all : (bytes : List ℕ) (i : ℕ) → length bytes ≤ i → flat_map quoted_unit (take i bytes) ≡ take i bytes
    → ((k : ℕ) → k < i → slice_index bytes k < 0x80) → ArePlain bytes
plain_all bytes i all so ascii = record {
  quoted = ap (flat_map quoted_unit) (sym (take_whole bytes i all)) ∙ so ∙ take_whole bytes i all;
  ascii = λ k less. ascii k (omega (arith, less, all));
}
