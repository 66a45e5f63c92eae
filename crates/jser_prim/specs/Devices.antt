-- What the adapters over a reader or a writer tell of themselves.
use Rattle.std.specs.Prelude.{ℕ, List, Bool, Option}

-- the bytes, where they are known: those still to come of a source, those gone out of a sink;
-- and whether a call has failed
pub record Told : Type 0 where
  pub bytes : Option (List ℕ)
  pub has_failed : Bool
