-- The names of classes that can be read at some place of the bytes of a stream, and are no checked names of it.
use Rattle.std.specs.Prelude.{ℕ, Bool, true, false, ◌==◌, if◌then◌else◌, List, [], ◌∷◌}
use Rattle.jser_table.specs.Names.{ElementOf, element, primitive_element, malformed_element, element_of}
use Rattle.jser_anywhere.specs.NamesIn.{Named, names_in}
use Rattle.jser_shown.specs.Listed.{has_name}

-- all but a primitive type and its arrays
abbrev pub is_class : ElementOf → Bool
is_class (element name) = true
is_class primitive_element = false
is_class malformed_element = true

-- the name of a class that is none of these
abbrev pub is_unchecked : (checked : List (List ℕ)) → List ℕ → Bool
is_unchecked checked name = if has_name name checked then false else is_class (element_of name)

-- a name that is none of these, as it stands, and names a class that is none of them
abbrev pub is_hidden : (checked : List (List ℕ)) → (text class : List ℕ) → Bool
is_hidden checked text class = if has_name text checked then false else is_unchecked checked class

abbrev pub has_place : ℕ → List ℕ → Bool
has_place at [] = false
has_place at (other ∷ places) = if at == other then true else has_place at places

-- of names whose text is at one place, the first; `seen` are the places before
abbrev pub once_each : (seen : List ℕ) → List Named → List Named
once_each seen [] = []
once_each seen (name ∷ names) =
    if has_place name.at seen then once_each seen names else name ∷ once_each (name.at ∷ seen) names

-- the classes that are named by the hidden ones of these
abbrev pub hidden_of : (checked : List (List ℕ)) → List Named → List (List ℕ)
hidden_of checked [] = []
hidden_of checked (name ∷ names) = if is_hidden checked name.text name.units then name.units ∷ hidden_of checked names else hidden_of checked names

-- those of some bytes, each as often as there are places where a text of it can be read
abbrev pub hidden_in : (checked : List (List ℕ)) → List ℕ → List (List ℕ)
hidden_in checked bytes = hidden_of checked (once_each [] (names_in 0 bytes))
