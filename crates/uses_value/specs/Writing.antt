-- What went out to a sink of a list that was not written whole.
use Rattle.std.specs.Prelude.{ℕ, List, Option}
use Rattle.std.specs.Io.KnownBytes.{Keeps}
use Rattle.jser_value.specs.Encoded.{WroteFirst}
use Rattle.uses_value.specs.declared.writing.WriteFault.{WriteFault}
use Rattle.uses_value.specs.declared.writing.WriteFault.TheVariants as fault

-- nothing, or as many of the first bytes as the fault says
abbrev pub WroteSome : Option (List ℕ) → Option (List ℕ) → List ℕ → WriteFault → Type 0
WroteSome old new bytes (fault.Refused value) = Keeps old new
WroteSome old new bytes (fault.Sink encode) = WroteFirst old new bytes encode
