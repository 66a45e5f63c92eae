-- What an index hands out.
use Rattle.std.specs.Prelude.{ℕ, ◌≤◌, List, length, take, Option}
use Rattle.std.specs.Io.KnownBytes.{Appends}
use Rattle.jser_index.specs.declared.output.GraphFault.{GraphFault}
use Rattle.jser_index.specs.declared.output.GraphFault.TheVariants as fault

-- the sink failed, and the first `written` of the bytes went out, and no others
abbrev pub WroteFirst : Option (List ℕ) → Option (List ℕ) → List ℕ → GraphFault → Type 0
WroteFirst old new bytes (fault.Write written) = (written ≤ length bytes) × Appends old new (take written bytes)
WroteFirst old new bytes (fault.OutOfMemory written) = ⊥
