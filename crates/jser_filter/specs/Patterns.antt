-- Name patterns of `ObjectInputFilter.Config.createFilter`, over lists of 16-bit units:
-- "If the pattern ends with `.**` it matches any class in the package and all subpackages. If the pattern
-- ends with `.*` it matches any class in the package. If the pattern ends with `*`, it matches any class
-- with the pattern as a prefix. If the pattern is equal to the class name, it matches."
use Rattle.std.specs.Prelude.{ℕ, ◌-◌, Bool, not, ◌==◌, ◌&&◌, if◌then◌else◌, List, [], ◌∷◌, ◌++◌, length, take, drop, nat_eq, codes, Option}
use Rattle.std.specs.List.{starts_with, ends_with, list_any}
use Rattle.std.specs.Str.{bytes_eq}
use Rattle.jser_filter.specs.declared.pattern.NamePattern.{NamePattern as Kept}
use Rattle.jser_filter.specs.declared.pattern.NamePattern.TheVariants as kept
use Rattle.jser_filter.specs.Cuts.{before_last}

-- `P.**` and `P.*`, each with its `P.`; `X*`, with its X; and any other
pub data NamePattern : Type 0 where
  below_package in_package prefix exact : List ℕ → NamePattern

-- all units but the last `n`
abbrev pub without_last : ℕ → List ℕ → List ℕ
without_last n units = take (length units - n) units

-- the four cases, tried in this order
abbrev pub name_pattern : List ℕ → NamePattern
name_pattern units =
    if ends_with nat_eq units (codes ".**") then below_package (without_last 2 units)
    else (if ends_with nat_eq units (codes ".*") then in_package (without_last 1 units)
    else (if ends_with nat_eq units (codes "*") then prefix (without_last 1 units)
    else exact units))

abbrev pub has_dot : List ℕ → Bool
has_dot units = list_any (λ unit. unit == 0x2E) units

-- a name begins with `P.`; it begins with `P.` and holds no `.` after that; it begins with X; it is equal
abbrev pub matches_name : NamePattern → List ℕ → Bool
matches_name (below_package front) name = starts_with nat_eq name front
matches_name (in_package front) name = starts_with nat_eq name front && not (has_dot (drop (length front) name))
matches_name (prefix front) name = starts_with nat_eq name front
matches_name (exact units) name = bytes_eq name units

-- the package of a class: what stands before the last `.` of its name
abbrev pub package_of : List ℕ → Option (List ℕ)
package_of name = before_last 0x2E name

-- a pattern that is kept
abbrev pub view_name : Kept → NamePattern
view_name (kept.BelowPackage front) = below_package front
view_name (kept.InPackage package_name) = in_package (package_name ++ 0x2E ∷ [])
view_name (kept.Prefix front) = prefix front
view_name (kept.Exact units) = exact units
