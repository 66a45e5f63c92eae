-- Whole numbers in limbs of 64 bits, the lowest first.
use Rattle.std.specs.Prelude.{ℕ, zero, suc, ◌+◌, ◌*◌, ◌^◌, nat_le, nat_lt, Bool, true, false, List, [], ◌∷◌}

abbrev pub worth : List ℕ → ℕ
worth [] = 0
worth (limb ∷ limbs) = limb + 2 ^ 64 * worth limbs

-- what a one in the limb of this number is worth
abbrev pub weight : ℕ → ℕ
weight zero = 1
weight (suc n) = 2 ^ 64 * weight n

-- one number is below the other, or as great where ties count
abbrev pub below : (ties : Bool) → ℕ → ℕ → Bool
below true one other = nat_le one other
below false one other = nat_lt one other
