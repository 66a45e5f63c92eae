-- The units of a name in a quoted text.
use Rattle.std.proofs.Common.{◌≡◌, ℕ, ◌+◌, ◌<◌, ◌≤◌, List, [], ◌∷◌, ◌++◌, zero, suc, length, take, get_or, refl, sym, ap, ap₂, ◌∙◌, arith}
use Rattle.std.specs.List.{flat_map}
use Rattle.std.proofs.lemmas.List.{take_more, flat_map_more}
use Rattle.jser_shown.specs.Words.{quoted_unit}

-- a unit more
pub quoted_more : (units old new text : List ℕ) (i unit : ℕ) → old ≡ flat_map quoted_unit (take i units) → i < length units → unit ≡ get_or units i 0
    → text ≡ quoted_unit unit → new ≡ old ++ text → new ≡ flat_map quoted_unit (take (i + 1) units)
quoted_more units old new text i unit so inside is said joined =
    joined ∙ ap₂ (λ a b. a ++ b) so (said ∙ ap quoted_unit is)
    ∙ flat_map_more quoted_unit [] (take i units) (get_or units i 0)
    ∙ sym (ap (flat_map quoted_unit) (take_more units i 0 inside))

take_whole : (units : List ℕ) (n : ℕ) → length units ≤ n → take n units ≡ units
take_whole [] zero le = refl
take_whole [] (suc n) le = refl
take_whole (u ∷ units) zero le = absurd (omega arith)
take_whole (u ∷ units) (suc n) le = ap (λ xs. u ∷ xs) (take_whole units n (omega arith))

-- all units
pub quoted_all : (units quoted : List ℕ) (i : ℕ) → length units ≤ i → quoted ≡ flat_map quoted_unit (take i units) → quoted ≡ flat_map quoted_unit units
quoted_all units quoted i all so = so ∙ ap (flat_map quoted_unit) (take_whole units i all)
