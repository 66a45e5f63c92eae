-- A list of parts on the way to being tested for its depth.
use Rattle.std.proofs.Common.{ℕ, ◌≤◌}

-- Of the whole, no part so far was too deep: what is left decides.
pub record IsLeft (room left whole : ℕ) : Type 0 where
  pub among : left ≤ whole
  pub decides : left ≤ room → whole ≤ room
