-- Limits of a filter: an optional sign and decimal digits, at least 0 and at most 2^63 - 1
-- (`java.lang.Long.parseLong`, and "The limit must be positive").
use Rattle.std.specs.Prelude.{ℕ, ◌+◌, ◌-◌, ◌*◌, Bool, false, ◌==◌, ◌&&◌, nat_le, if◌then◌else◌, List, [], ◌∷◌, fold, codes, Option, Some, None}
use Rattle.std.specs.List.{list_all}
use Rattle.std.specs.Str.{bytes_eq}
use Rattle.jser_filter.specs.declared.limit.Limit.{Limit}
use Rattle.jser_filter.specs.declared.limit.Limits.{Limits}
use Rattle.jser_filter.specs.declared.limit.Limit.TheVariants as limit

-- the limits and their names
abbrev pub limit_named : List ℕ → Option Limit
limit_named name =
    if bytes_eq name (codes "maxdepth") then Some limit.Depth
    else (if bytes_eq name (codes "maxrefs") then Some limit.Refs
    else (if bytes_eq name (codes "maxbytes") then Some limit.Bytes
    else (if bytes_eq name (codes "maxarray") then Some limit.Array
    else None)))

abbrev pub is_digit : ℕ → Bool
is_digit unit = nat_le 0x30 unit && nat_le unit 0x39

abbrev pub digit_value : ℕ → Option ℕ
digit_value unit = if is_digit unit then Some (unit - 0x30) else None

-- the number that decimal digits write
abbrev pub number_written : List ℕ → ℕ
number_written digits = fold (λ value digit. 10 * value + (digit - 0x30)) 0 digits

-- at least one unit, and each of them a digit
abbrev pub are_digits : List ℕ → Bool
are_digits [] = false
are_digits (unit ∷ units) = list_all is_digit (unit ∷ units)

-- digits that write at most this number
abbrev pub number_up_to : ℕ → List ℕ → Option ℕ
number_up_to most units = if are_digits units && nat_le (number_written units) most then Some (number_written units) else None

-- a `+` changes nothing, and after a `-` only 0 may stand
abbrev pub limit_value : List ℕ → Option ℕ
limit_value [] = None
limit_value (unit ∷ units) =
    if unit == 0x2B then number_up_to 9223372036854775807 units
    else (if unit == 0x2D then number_up_to 0 units
    else number_up_to 9223372036854775807 (unit ∷ units))

-- the limits with this value of one of them
abbrev pub with_limit : Limits → Limit → ℕ → Limits
with_limit limits limit.Depth value = record limits { depth = Some value }
with_limit limits limit.Refs value = record limits { refs = Some value }
with_limit limits limit.Bytes value = record limits { bytes = Some value }
with_limit limits limit.Array value = record limits { array = Some value }
