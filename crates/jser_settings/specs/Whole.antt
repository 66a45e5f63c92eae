-- All the bytes of a source, read by read.
use Rattle.std.specs.Prelude.{◌≡◌, ℕ, List, ◌++◌, Option}
use Rattle.std.specs.Io.KnownBytes.{Consumes}

-- what came from the source was added to what there was
pub record ReadsOnto (had has : Option (List ℕ)) (old new : List ℕ) : Type 0 where
  pub bytes : List ℕ
  pub added : new ≡ old ++ bytes
  pub off : Consumes had has bytes
