-- The statuses of an explanation.
use Rattle.std.proofs.Common.{◌≡◌, ℕ, inl, inr}
use Rattle.std.specs.Prelude.{◌≢◌, ◌⊎◌}

pub not_told : (status : ℕ) → (status ≡ 0) ⊎ ((status ≡ 1) ⊎ (status ≡ 3)) → (status ≢ 0) × (status ≢ 1) → status ≡ 3
not_told status (inl is0) none = absurd (none.0 is0)
not_told status (inr (inl is1)) none = absurd (none.1 is1)
not_told status (inr (inr is3)) none = is3
