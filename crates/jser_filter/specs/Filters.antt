-- What a filter says of a name and of limits (`ObjectInputFilter.Config.createFilter`: "The patterns are
-- checked left to right; the first match decides" and the last value of a limit holds).
use Rattle.std.specs.Prelude.{ℕ, ◌≡◌, ◌<◌, Bool, true, false, ◌&&◌, if◌then◌else◌, List, [], ◌∷◌, length, take, slice_get, position, Option, Some, None}
use Rattle.std.specs.List.{list_any}
use Rattle.std.specs.Str.{bytes_eq}
use Rattle.jser_table.specs.Names.{ElementOf, element, primitive_element, malformed_element, element_of}
use Rattle.jser_filter.specs.declared.limit.Limit.{Limit}
use Rattle.jser_filter.specs.declared.limit.Limit.TheVariants as limit
use Rattle.jser_filter.specs.declared.limit.Limits.{Limits}
use Rattle.jser_filter.specs.declared.verdict.Verdict.{Verdict}
use Rattle.jser_filter.specs.declared.verdict.Verdict.TheVariants as verdict
use Rattle.jser_filter.specs.declared.fault.FilterFault.{FilterFault}
use Rattle.jser_filter.specs.Patterns.{matches_name}
use Rattle.jser_filter.specs.Tables.{ModuleTable, module_of_class}
use Rattle.jser_filter.specs.Pieces.{Pattern, Piece, empty_piece, limit_piece, pattern_piece, faulty_piece, IsCauseOf}

-- a filter: the pieces of its text, and its table of modules
pub record FilterView : Type 0 where
  pub pieces : List Piece
  pub modules : ModuleTable

-- the module of a pattern, if it has one, is the one that was found for the name's package
abbrev pub is_in_module : Option (List ℕ) → Option (List ℕ) → Bool
is_in_module found None = true
is_in_module None (Some wanted) = false
is_in_module (Some found) (Some wanted) = bytes_eq found wanted

-- a pattern matches a name whose package is in this module, if in any
abbrev pub matches_pattern : Option (List ℕ) → List ℕ → Pattern → Bool
matches_pattern found name pattern = is_in_module found pattern.in_module && matches_name pattern.name name

abbrev pub matches_piece : Option (List ℕ) → List ℕ → Piece → Bool
matches_piece found name empty_piece = false
matches_piece found name (limit_piece limit value) = false
matches_piece found name (pattern_piece pattern) = matches_pattern found name pattern
matches_piece found name (faulty_piece cause) = false

-- the least index of a piece whose pattern matches the name of an element
abbrev pub first_match : FilterView → List ℕ → Option ℕ
first_match filter element_name = position (matches_piece (module_of_class filter.modules element_name) element_name) filter.pieces

-- whether a piece is a pattern, and not a limit or nothing
abbrev pub is_pattern : Piece → Bool
is_pattern empty_piece = false
is_pattern (limit_piece limit value) = false
is_pattern (pattern_piece pattern) = true
is_pattern (faulty_piece cause) = false

abbrev pub rejects : Option Piece → Bool
rejects None = false
rejects (Some empty_piece) = false
rejects (Some (limit_piece limit value)) = false
rejects (Some (pattern_piece pattern)) = pattern.rejects
rejects (Some (faulty_piece cause)) = false

-- the piece that decides rejects or allows the name
abbrev pub verdict_at : List Piece → Option ℕ → Verdict
verdict_at pieces None = verdict.Undecided
verdict_at pieces (Some index) = if rejects (slice_get pieces index) then verdict.Rejected index else verdict.Allowed index

-- A name is judged by its element. A primitive names no class; `judge` requires a name that is not malformed.
abbrev pub verdict_by : FilterView → ElementOf → Verdict
verdict_by filter (element name) = verdict_at filter.pieces (first_match filter name)
verdict_by filter primitive_element = verdict.NoClass
verdict_by filter malformed_element = verdict.Undecided

abbrev pub verdict_of : FilterView → List ℕ → Verdict
verdict_of filter name = verdict_by filter (element_of name)

-- Limits.

abbrev pub is_same : Limit → Limit → Bool
is_same limit.Depth limit.Depth = true
is_same limit.Refs limit.Refs = true
is_same limit.Bytes limit.Bytes = true
is_same limit.Array limit.Array = true
is_same wanted given = false

-- the value that a piece gives a limit
abbrev pub value_in : Limit → Piece → Option ℕ
value_in wanted empty_piece = None
value_in wanted (limit_piece given value) = if is_same wanted given then Some value else None
value_in wanted (pattern_piece pattern) = None
value_in wanted (faulty_piece cause) = None

-- a later value, or else this one
abbrev pub later_or : Option ℕ → Option ℕ → Option ℕ
later_or (Some later) value = Some later
later_or None value = value

-- the last value that the pieces give a limit
abbrev pub last_value : Limit → List Piece → Option ℕ
last_value wanted [] = None
last_value wanted (piece ∷ pieces) = later_or (last_value wanted pieces) (value_in wanted piece)

abbrev pub limits_of : List Piece → Limits
limits_of pieces = record {
  depth = last_value limit.Depth pieces;
  refs = last_value limit.Refs pieces;
  bytes = last_value limit.Bytes pieces;
  array = last_value limit.Array pieces;
}

-- the limits after one more piece
abbrev pub limits_after : Limits → Piece → Limits
limits_after limits piece = record {
  depth = later_or (value_in limit.Depth piece) limits.depth;
  refs = later_or (value_in limit.Refs piece) limits.refs;
  bytes = later_or (value_in limit.Bytes piece) limits.bytes;
  array = later_or (value_in limit.Array piece) limits.array;
}

-- Faults.

abbrev pub is_faulty : Piece → Bool
is_faulty empty_piece = false
is_faulty (limit_piece limit value) = false
is_faulty (pattern_piece pattern) = false
is_faulty (faulty_piece cause) = true

-- no piece is faulty
abbrev pub AreSound : List Piece → Type 0
AreSound pieces = list_any is_faulty pieces ≡ false

-- The fault is that of the piece that it names, or memory ran out there; and no earlier piece is faulty.
pub record IsFirstFault (pieces : List Piece) (fault : FilterFault) : Type 0 where
  pub inside : fault.pattern < length pieces
  pub here : (piece : Piece) → slice_get pieces fault.pattern ≡ Some piece → IsCauseOf piece fault.cause
  pub before : AreSound (take fault.pattern pieces)
