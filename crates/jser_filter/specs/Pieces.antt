-- The pieces of a filter's text, which is cut at each `;` (`ObjectInputFilter.Config.createFilter`: "The
-- pattern string is a sequence of patterns separated by `;`"). White space is part of a piece, and an empty
-- piece says nothing.
use Rattle.std.specs.Prelude.{ℕ, ◌≡◌, Bool, true, false, ◌==◌, ◌||◌, if◌then◌else◌, List, [], ◌∷◌, map, codes, Option, Some, None}
use Rattle.std.specs.Str.{bytes_eq}
use Rattle.jser_filter.specs.declared.limit.Limit.{Limit}
use Rattle.jser_filter.specs.declared.fault.FilterCause.{FilterCause}
use Rattle.jser_filter.specs.declared.fault.FilterCause.TheVariants as cause
use Rattle.jser_filter.specs.declared.piece.Pattern.{Pattern as KeptPattern}
use Rattle.jser_filter.specs.declared.piece.Piece.{Piece as KeptPiece}
use Rattle.jser_filter.specs.declared.piece.Piece.TheVariants as kept
use Rattle.jser_filter.specs.Cuts.{cut, split_at_each}
use Rattle.jser_filter.specs.Patterns.{NamePattern, name_pattern, view_name}
use Rattle.jser_filter.specs.Limits.{limit_named, limit_value}

-- a pattern: whether it rejects, its module, if it has one, and its name pattern
pub record Pattern : Type 0 where
  pub rejects : Bool
  pub in_module : Option (List ℕ)
  pub name : NamePattern

pub data Piece : Type 0 where
  empty_piece : Piece
  limit_piece : Limit → ℕ → Piece
  pattern_piece : Pattern → Piece
  faulty_piece : FilterCause → Piece

-- `name=value`
abbrev pub limit_or_fault : Option Limit → Option ℕ → Piece
limit_or_fault None value = faulty_piece cause.UnknownLimit
limit_or_fault (Some limit) None = faulty_piece cause.BadLimit
limit_or_fault (Some limit) (Some value) = limit_piece limit value

abbrev pub read_limit : List ℕ × List ℕ → Piece
read_limit (name, value) = limit_or_fault (limit_named name) (limit_value value)

-- `.*` and `.**` alone have no package
abbrev pub lacks_package : List ℕ → Bool
lacks_package units = bytes_eq units (codes ".*") || bytes_eq units (codes ".**")

abbrev pub read_name : Bool → Option (List ℕ) → List ℕ → Piece
read_name rejects in_module [] = faulty_piece cause.NameMissing
read_name rejects in_module (unit ∷ units) =
    if lacks_package (unit ∷ units) then faulty_piece cause.PackageMissing
    else pattern_piece record { rejects = rejects; in_module = in_module; name = name_pattern (unit ∷ units) }

-- `module/name`, cut at the first `/`
abbrev pub read_in_module : Bool → List ℕ → Option (List ℕ × List ℕ) → Piece
read_in_module rejects units None = read_name rejects None units
read_in_module rejects units (Some ([], name)) = faulty_piece cause.ModuleMissing
read_in_module rejects units (Some (unit ∷ units_before, name)) = read_name rejects (Some (unit ∷ units_before)) name

abbrev pub read_named : Bool → List ℕ → Piece
read_named rejects units = read_in_module rejects units (cut 0x2F units)

-- one leading `!` makes a rejecting pattern
abbrev pub read_pattern : List ℕ → Piece
read_pattern [] = read_named false []
read_pattern (unit ∷ units) = if unit == 0x21 then read_named true units else read_named false (unit ∷ units)

-- a piece with a `=` is a limit, and any other a pattern
abbrev pub read_cut : List ℕ → Option (List ℕ × List ℕ) → Piece
read_cut units None = read_pattern units
read_cut units (Some parts) = read_limit parts

abbrev pub read_piece : List ℕ → Piece
read_piece [] = empty_piece
read_piece (unit ∷ units) = read_cut (unit ∷ units) (cut 0x3D (unit ∷ units))

-- what the pieces of a text say, in their order
abbrev pub pieces_of : List ℕ → List Piece
pieces_of text = map read_piece (split_at_each 0x3B text)

-- What is kept of a piece, and when it is kept.

abbrev pub view_pattern : KeptPattern → Pattern
view_pattern p = record { rejects = p.rejects; in_module = p.in_module; name = view_name p.name }

abbrev pub view_piece : KeptPiece → Piece
view_piece kept.Empty = empty_piece
view_piece (kept.Limit limit value) = limit_piece limit value
view_piece (kept.Pattern pattern) = pattern_piece (view_pattern pattern.value)

-- the cause is the one that the piece has, or memory ran out
abbrev pub IsCauseOf : Piece → FilterCause → Type 0
IsCauseOf piece cause.OutOfMemory = Unit {0}
IsCauseOf piece cause.UnknownLimit = piece ≡ faulty_piece cause.UnknownLimit
IsCauseOf piece cause.BadLimit = piece ≡ faulty_piece cause.BadLimit
IsCauseOf piece cause.ModuleMissing = piece ≡ faulty_piece cause.ModuleMissing
IsCauseOf piece cause.NameMissing = piece ≡ faulty_piece cause.NameMissing
IsCauseOf piece cause.PackageMissing = piece ≡ faulty_piece cause.PackageMissing
