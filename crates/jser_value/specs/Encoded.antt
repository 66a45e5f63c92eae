-- What went out of a stream to a sink that failed.
use Rattle.std.specs.Prelude.{ℕ, ◌≤◌, List, length, take, Option}
use Rattle.std.specs.Io.KnownBytes.{Appends}
use Rattle.jser_value.specs.declared.encoder.EncodeFault.{EncodeFault}
use Rattle.jser_value.specs.declared.encoder.EncodeFault.TheVariants as fault

-- the first `written` of the bytes went out, and no others
abbrev pub WroteFirst : Option (List ℕ) → Option (List ℕ) → List ℕ → EncodeFault → Type 0
WroteFirst old new bytes (fault.Write written) = (written ≤ length bytes) × Appends old new (take written bytes)
