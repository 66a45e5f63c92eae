-- How the path of a file is printed.
use Rattle.std.specs.Prelude.{ℕ, ◌&&◌, ◌||◌, ◌==◌, not, nat_le, Bool, true, false, if◌then◌else◌, List, [], ◌∷◌, ◌++◌, codes, string_bytes}
use Rattle.std.specs.List.{list_all}
use Rattle.std.specs.Str.{chars}
use Rattle.ucd_category.specs.GeneralCategory.{general_category}
use Rattle.ucd_category.specs.declared.GeneralCategory.{GeneralCategory}
use Rattle.ucd_category.specs.declared.GeneralCategory.TheVariants as category
use Rattle.jser_shown.specs.Words.{quoted}
use Rattle.jser_scan.specs.declared.path.FilePath.{FilePath}

-- Nobody can take more or less for a text: none of its characters is `"` or `\`, and no space stands behind a `:`, or at an end.

-- behind this character
abbrev pub is_unbroken_behind : ℕ → List ℕ → Bool
is_unbroken_behind before [] = not (before == 0x20)
is_unbroken_behind before (b ∷ bytes) =
    ((not (b == 0x22) && not (b == 0x5C)) && not (before == 0x3A && b == 0x20)) && is_unbroken_behind b bytes

abbrev pub is_unbroken : List ℕ → Bool
is_unbroken bytes = is_unbroken_behind 0x3A bytes

abbrev pub is_ascii : ℕ → Bool
is_ascii b = nat_le 0x20 b && nat_le b 0x7E

-- A path is printed as it is where its characters are from 20 to 7E besides.
abbrev pub is_plain : List ℕ → Bool
is_plain bytes = list_all is_ascii bytes && is_unbroken bytes

-- a text with its units, as it is, or quoted as a class name is
abbrev pub text_words : (bytes units : List ℕ) → List ℕ → List ℕ
text_words bytes units k = if is_plain bytes then bytes ++ k else quoted units k

abbrev pub path_words : FilePath → List ℕ → List ℕ
path_words path k = text_words (string_bytes path.text) path.units.items k

-- Where a file cannot be opened, its path is told as it was given where all its characters are seen: a space, letters, marks,
-- numbers, punctuation and symbols, by their general category in Unicode.
abbrev pub is_seen_kind : GeneralCategory → Bool
is_seen_kind category.SpaceSeparator = false
is_seen_kind category.LineSeparator = false
is_seen_kind category.ParagraphSeparator = false
is_seen_kind category.Control = false
is_seen_kind category.Format = false
is_seen_kind category.Surrogate = false
is_seen_kind category.PrivateUse = false
is_seen_kind category.Unassigned = false
is_seen_kind other = true

abbrev pub is_seen : ℕ → Bool
is_seen sign = (sign == 0x20) || is_seen_kind (general_category sign)

abbrev pub is_told : List ℕ → Bool
is_told bytes = list_all is_seen (chars bytes) && is_unbroken bytes

abbrev pub told_words : FilePath → List ℕ → List ℕ
told_words path k = if is_told (string_bytes path.text) then string_bytes path.text ++ k else quoted path.units.items k

-- cannot open PATH
abbrev pub unopened_words : FilePath → List ℕ → List ℕ
unopened_words path k = codes "cannot open " ++ told_words path (0x0A ∷ k)
