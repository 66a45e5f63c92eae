-- Texts and names by their units.
use Rattle.std.specs.Prelude.{ℕ, Bool, true, false, List, Option, Some, None}
use Rattle.std.specs.Borrow.{Bor}
use Rattle.jser_printer.specs.declared.text.Text.{Text}
use Rattle.jser_printer.specs.declared.text.Text.TheVariants as text

abbrev pub view_text : Text → List ℕ
view_text (text.Units units) = units.now
view_text (text.Plain plain) = plain.bytes.now

-- what is quoted, where that stands for itself
abbrev pub units_of : (is_plain : Bool) → (quoted units : List ℕ) → List ℕ
units_of true quoted units = quoted
units_of false quoted units = units

-- a name, where there is one
abbrev pub view_name : Option (Bor (List ℕ)) → Option (List ℕ)
view_name None = None
view_name (Some name) = Some name.now
