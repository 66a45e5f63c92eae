-- A number, or the header, of which the first bytes came in an earlier piece.
use Rattle.std.specs.Prelude.{ℕ, ◌<◌, List, length}
use Rattle.jser_reader.specs.declared.phase.Phase.{Phase}
use Rattle.jser_reader.specs.declared.phase.Phase.TheVariants as phase
use Rattle.jser_reader.specs.Walks.{size_of_phase}

-- which token it is, and its first bytes
pub record CutToken : Type 0 where
  pub phase : Phase
  pub kept : List ℕ

-- a number of four bytes
abbrev pub IsFour : Phase → Type 0
IsFour phase.BackHandle = Unit {0}
IsFour phase.ClassHandle = Unit {0}
IsFour phase.SuperHandle = Unit {0}
IsFour phase.TextHandle = Unit {0}
IsFour phase.InterfaceCount = Unit {0}
IsFour phase.ArrayLength = Unit {0}
IsFour phase.BlockLength4 = Unit {0}
IsFour _ = ⊥

-- a token that has more bytes than one, so that a piece may end within it
abbrev pub CanBeCut : Phase → Type 0
CanBeCut phase.Header = Unit {0}
CanBeCut phase.FieldCount = Unit {0}
CanBeCut phase.Length2 = Unit {0}
CanBeCut phase.Length8 = Unit {0}
CanBeCut phase.Suid = Unit {0}
CanBeCut p = IsFour p

-- these are bytes of it, but not all
pub record IsCutToken (phase : Phase) (kept : List ℕ) : Type 0 where
  pub may_be : CanBeCut phase
  pub short : length kept < size_of_phase phase
