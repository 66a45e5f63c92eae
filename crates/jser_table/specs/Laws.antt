-- What the two answers on a name have in common: what a filter judges it by, and the layer that it makes.
use Rattle.std.specs.Prelude.{ℕ, ◌≡◌, ◌↔◌, List, None}
use Rattle.jser_table.specs.Names.{element_of, malformed_element, name_kind, view_kind}

-- a name makes no layer exactly where it is malformed
abbrev pub MalformedAlike : Type 0
MalformedAlike = (name : List ℕ) → (view_kind (name_kind name) ≡ None) ↔ (element_of name ≡ malformed_element)
