use Rattle.std.proofs.Common.{ℕ, ◌≡◌, ◌≤◌, length, take, get_or}
use Rattle.jser_decimal.proofs.BigLemmas.{Multiplied}
use Rattle.jser_decimal.proofs.big.multiply_limbs.Given as goal

abbrev pub invariant-limbs : goal.invariant-limbs
invariant-limbs l =
    Multiplied (take l.at l.limbs) l.fn.limbs l.by l.carry l.at × (length l.limbs ≡ length l.fn.limbs) × ((k : ℕ) → l.at ≤ k → get_or l.limbs k 0 ≡ get_or l.fn.limbs k 0)
