-- The fields of a class by their places: the next one of a primitive type, and the next one of another.
use Rattle.std.proofs.Common.{◌≡◌, ℕ, ◌+◌, ◌<◌, ◌≤◌, Bool, true, false, if◌then◌else◌, List, ◌∷◌, length, drop, slice_index_or, Some, None, is_some, ap, sym, ◌∙◌, arith}
use Rattle.std.proofs.lemmas.List.{drop_more, drop_all, length-map, get_or-map}
use Rattle.jser_grammar.specs.Codes.{prim_code_of}
use Rattle.jser_shown.specs.Known.{prim_fields, object_names}
use Rattle.jser_shown.specs.Known.{NamedField as ToldField}
use Rattle.jser_printer.specs.declared.layer.NamedField.{NamedField}
use Rattle.jser_printer.specs.Layers.{view_field, view_fields, no_field, field_at, is_raw_at, NextRaw, NextValue}

field_told : (fields : List NamedField) (i : ℕ) (f : NamedField) → i < length fields → f ≡ slice_index_or fields i f → field_at (view_fields fields) i ≡ view_field f
field_told fields i f inside is = get_or-map view_field fields i f no_field inside ∙ ap view_field (sym is)

pub code_at : (fields : List NamedField) (i : ℕ) (f : NamedField) (b : Bool) → i < length fields → f ≡ slice_index_or fields i f → b ≡ is_some (prim_code_of f.code) → b ≡ is_raw_at (view_fields fields) i
code_at fields i f b inside is primitive = primitive ∙ ap (λ (g : ToldField). is_some (prim_code_of g.code)) (sym (field_told fields i f inside is))

pub field_there : (fields : List NamedField) (i : ℕ) (f : NamedField) → i < length fields → f ≡ slice_index_or fields i f → view_field f ≡ field_at (view_fields fields) i
field_there fields i f inside is = sym (field_told fields i f inside is)

pub name_at : (fields : List NamedField) (i : ℕ) (f : NamedField) (name : List ℕ) → i < length fields → f ≡ slice_index_or fields i f → name ≡ f.name → name ≡ (field_at (view_fields fields) i).name
name_at fields i f name inside is same = same ∙ ap (λ (g : ToldField). g.name) (sym (field_told fields i f inside is))

-- over fields as they are told

raw_first : (fields : List ToldField) (i : ℕ) → i < length fields → prim_fields (drop i fields) ≡ (if is_raw_at fields i then field_at fields i ∷ prim_fields (drop (i + 1) fields) else prim_fields (drop (i + 1) fields))
raw_first fields i inside = ap prim_fields (drop_more fields i no_field inside)

value_first : (fields : List ToldField) (i : ℕ) → i < length fields → object_names (drop i fields) ≡ (if is_raw_at fields i then object_names (drop (i + 1) fields) else (field_at fields i).name ∷ object_names (drop (i + 1) fields))
value_first fields i inside = ap object_names (drop_more fields i no_field inside)

inside_told : (fields : List NamedField) (i : ℕ) → i < length fields → i < length (view_fields fields)
inside_told fields i inside = omega (arith, length-map fields view_field)

pub raw_found : (fields : List NamedField) (from i : ℕ) (b : Bool) → i < length fields → prim_fields (drop from (view_fields fields)) ≡ prim_fields (drop i (view_fields fields)) → b ≡ is_raw_at (view_fields fields) i → b ≡ true → NextRaw (view_fields fields) from (Some i)
raw_found fields from i b inside same is holds =
    let test : is_raw_at (view_fields fields) i ≡ true = sym is ∙ holds in
    let here = raw_first (view_fields fields) i (inside_told fields i inside) in
    (inside_told fields i inside, same ∙ here ∙ ap (λ t. if t then field_at (view_fields fields) i ∷ prim_fields (drop (i + 1) (view_fields fields)) else prim_fields (drop (i + 1) (view_fields fields))) test)

pub raw_passed : (fields : List NamedField) (from i : ℕ) (b : Bool) → i < length fields → prim_fields (drop from (view_fields fields)) ≡ prim_fields (drop i (view_fields fields)) → b ≡ is_raw_at (view_fields fields) i → b ≡ false → prim_fields (drop from (view_fields fields)) ≡ prim_fields (drop (i + 1) (view_fields fields))
raw_passed fields from i b inside same is fails =
    let test : is_raw_at (view_fields fields) i ≡ false = sym is ∙ fails in
    let here = raw_first (view_fields fields) i (inside_told fields i inside) in
    same ∙ here ∙ ap (λ t. if t then field_at (view_fields fields) i ∷ prim_fields (drop (i + 1) (view_fields fields)) else prim_fields (drop (i + 1) (view_fields fields))) test

pub no_raw : (fields : List NamedField) (from i : ℕ) → prim_fields (drop from (view_fields fields)) ≡ prim_fields (drop i (view_fields fields)) → length fields ≤ i → NextRaw (view_fields fields) from None
no_raw fields from i same past = same ∙ ap prim_fields (drop_all i (view_fields fields) (omega (arith, length-map fields view_field)))

pub value_found : (fields : List NamedField) (from i : ℕ) (b : Bool) → i < length fields → object_names (drop from (view_fields fields)) ≡ object_names (drop i (view_fields fields)) → b ≡ is_raw_at (view_fields fields) i → b ≡ false → NextValue (view_fields fields) from (Some i)
value_found fields from i b inside same is fails =
    let test : is_raw_at (view_fields fields) i ≡ false = sym is ∙ fails in
    let here = value_first (view_fields fields) i (inside_told fields i inside) in
    (inside_told fields i inside, same ∙ here ∙ ap (λ t. if t then object_names (drop (i + 1) (view_fields fields)) else (field_at (view_fields fields) i).name ∷ object_names (drop (i + 1) (view_fields fields))) test)

pub value_passed : (fields : List NamedField) (from i : ℕ) (b : Bool) → i < length fields → object_names (drop from (view_fields fields)) ≡ object_names (drop i (view_fields fields)) → b ≡ is_raw_at (view_fields fields) i → b ≡ true → object_names (drop from (view_fields fields)) ≡ object_names (drop (i + 1) (view_fields fields))
value_passed fields from i b inside same is holds =
    let test : is_raw_at (view_fields fields) i ≡ true = sym is ∙ holds in
    let here = value_first (view_fields fields) i (inside_told fields i inside) in
    same ∙ here ∙ ap (λ t. if t then object_names (drop (i + 1) (view_fields fields)) else (field_at (view_fields fields) i).name ∷ object_names (drop (i + 1) (view_fields fields))) test

pub no_value : (fields : List NamedField) (from i : ℕ) → object_names (drop from (view_fields fields)) ≡ object_names (drop i (view_fields fields)) → length fields ≤ i → NextValue (view_fields fields) from None
no_value fields from i same past = same ∙ ap object_names (drop_all i (view_fields fields) (omega (arith, length-map fields view_field)))
