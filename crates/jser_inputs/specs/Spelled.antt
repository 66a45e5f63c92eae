-- Which bytes a text spells, and how far it is of its form.
use Rattle.std.specs.Prelude.{ℕ, ◌≡◌, suc, ◌+◌, if◌then◌else◌, List, [], ◌∷◌, ◌++◌}
use Rattle.jser_inputs.specs.declared.form.Form.{Form}
use Rattle.jser_inputs.specs.declared.place.Place.{Place}
use Rattle.jser_inputs.specs.declared.spot.Spot.{Spot}
use Rattle.jser_inputs.specs.declared.spot.Move.{Move}
use Rattle.jser_inputs.specs.declared.spot.Move.TheVariants as move
use Rattle.jser_inputs.specs.Places.{first_spot, is_whole, move_of}

-- What comes in place of a byte where a text is not of its form: it is no byte, so what such a text spells is no
-- stream, and no source gives it.
abbrev pub no_byte : ℕ
no_byte = 256

-- what a character gives, and then what comes behind it
abbrev pub follows : Move → (Spot → List ℕ) → List ℕ
follows (move.Goes next) rest = rest next
follows (move.Gives byte next) rest = byte ∷ rest next
follows move.Wrong rest = no_byte ∷ []

-- where a text ends
abbrev pub ended : Place → List ℕ
ended at = if is_whole at then [] else no_byte ∷ []

-- what a text spells from a spot on
unfoldable pub spelled : Spot → List ℕ → List ℕ
spelled at [] = ended at.place
spelled at (c ∷ text) = follows (move_of at c) (λ next. spelled next text)

-- how many characters come before the first that may not come there: all, where there is none
abbrev pub counted : Move → (Spot → ℕ) → ℕ
counted (move.Goes next) rest = suc (rest next)
counted (move.Gives byte next) rest = suc (rest next)
counted move.Wrong rest = 0

unfoldable pub right_until : Spot → List ℕ → ℕ
right_until at [] = 0
right_until at (c ∷ text) = counted (move_of at c) (λ next. right_until next text)

-- what a text of a form spells
abbrev pub spelling_of : Form → List ℕ → List ℕ
spelling_of form text = spelled (first_spot form) text

-- A text has been read as far as `rest`, to a spot: it spelled these bytes, and `taken` characters were right. So
-- whatever comes after it, what it spells and where it goes wrong are those of the rest.
pub record Reads (start now : Spot) (text rest out : List ℕ) (taken : ℕ) : Type 0 where
  pub spells : (more : List ℕ) → spelled start (text ++ more) ≡ out ++ spelled now (rest ++ more)
  pub right : (more : List ℕ) → right_until start (text ++ more) ≡ taken + right_until now (rest ++ more)
