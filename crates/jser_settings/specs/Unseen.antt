-- Pieces of a filter that begin or end with a sign that nobody sees: one of Unicode's general category Cc, Cf, Zs, Zl or Zp.
use Rattle.std.specs.Prelude.{ℕ, ◌+◌, ◌==◌, ◌&&◌, ◌||◌, Bool, true, false, if◌then◌else◌, List, [], ◌∷◌, Option, Some, None}
use Rattle.ucd_category.specs.GeneralCategory.{general_category}
use Rattle.ucd_category.specs.declared.GeneralCategory.{GeneralCategory}
use Rattle.ucd_category.specs.declared.GeneralCategory.TheVariants as category

abbrev pub is_unseen_kind : GeneralCategory → Bool
is_unseen_kind category.Control = true
is_unseen_kind category.Format = true
is_unseen_kind category.SpaceSeparator = true
is_unseen_kind category.LineSeparator = true
is_unseen_kind category.ParagraphSeparator = true
is_unseen_kind other = false

abbrev pub is_unseen : ℕ → Bool
is_unseen sign = is_unseen_kind (general_category sign)

-- whether a piece ends or begins here with such a sign, between this character and the next
abbrev pub is_unseen_between : ℕ → ℕ → Bool
is_unseen_between before sign = (before == 0x3B && is_unseen sign) || (sign == 0x3B && is_unseen before)

abbrev pub number_behind : ℕ → ℕ → ℕ
number_behind number sign = if sign == 0x3B then number + 1 else number

-- of the pieces from this number on, behind this character; a text begins as if behind a `;`
abbrev pub first_unseen_behind : (number before : ℕ) → List ℕ → Option ℕ
first_unseen_behind number before [] = if is_unseen before then Some number else None
first_unseen_behind number before (sign ∷ text) =
    if is_unseen_between before sign then Some number else first_unseen_behind (number_behind number sign) sign text

-- the number of the first such piece of a text of these characters
abbrev pub first_unseen : List ℕ → Option ℕ
first_unseen text = first_unseen_behind 0 0x3B text
