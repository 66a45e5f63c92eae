-- A walk over the sections of an object's data.
use Rattle.std.proofs.Common.{◌≡◌, ℕ, suc, length, List, ◌∷◌, Option, Some, None, false}
use Rattle.std.specs.List.{list_any}
use Rattle.jser_table.specs.declared.layer.Layer.{Layer}
use Rattle.jser_table.specs.Chains.{has_write_method}
use Rattle.jser_table.specs.Sections.{IsOn, layer_of, under}

-- what is left of the question whether one of these layers is annotated
abbrev pub IsLeft : (chains : List (List Layer)) → (last : ℕ) → (whole : List Layer) → Option ℕ → Type 0
IsLeft chains last whole None = list_any (λ layer. has_write_method layer.flags) whole ≡ false
IsLeft chains last whole (Some section) =
    IsOn chains last section
    × (list_any (λ layer. has_write_method layer.flags) whole
    ≡ list_any (λ layer. has_write_method layer.flags) (layer_of chains section ∷ under chains last section))

-- how many sections are left
abbrev pub count_left : (chains : List (List Layer)) → (last : ℕ) → Option ℕ → ℕ
count_left chains last None = 0
count_left chains last (Some section) = suc (length (under chains last section))
