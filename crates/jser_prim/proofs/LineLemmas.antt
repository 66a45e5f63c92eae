-- Looking back for the end of a line.
use Rattle.std.proofs.Common.{◌≡◌, ℕ, ◌-◌, ◌<◌, ◌≤◌, List, slice_get, Some}

-- no line ends behind this place and at the most
pub record Back (bytes : List ℕ) (most end : ℕ) : Type 0 where
  pub within : end ≤ most
  pub none : (more : ℕ) → end < more → more ≤ most → slice_get bytes (more - 1) ≡ Some 0x0A → ⊥
