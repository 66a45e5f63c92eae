-- What a gate limits, asked token by token, and what it limits in a list (JEP 290: maxdepth, maxrefs, maxarray and
-- the names of classes; and how many handles an epoch may have).
use Rattle.std.specs.Prelude.{ℕ, ◌≤◌, ◌↔◌, ◌&&◌, ◌||◌, not, Bool, true, false, IsTrue, nat_le, nat_lt, List, [], ◌∷◌, length, Some}
use Rattle.jser_grammar.specs.Trees.{ContentTrees}
use Rattle.jser_grammar.specs.WellFormed.{WellFormed}
use Rattle.jser_grammar.specs.CheckedNames.{checked_names}
use Rattle.jser_grammar.specs.Counts.{depth_of, refs_of, array_lengths, epoch_handles}
use Rattle.jser_reading.specs.Labels.{null_tag, string_tag, long_string_tag, proxy_desc_tag, StreamToken, tag_token, handle_token, suid_token, array_length_token, text_token, Position, top_at, annotation_at, value_at, superclass_place_at, class_handle_at, superclass_handle_at, class_name_at, interface_name_at}
use Rattle.jser_reading.specs.Tokens.{tokens_of}
use Rattle.jser_reading.specs.Scanner.{TokenGate, AllPass}

pub record GateLimits : Type 0 where
  pub depth : ℕ
  pub refs : ℕ
  pub array : ℕ
  pub handles : ℕ
  -- whether a checked name is let through
  pub passes : List ℕ → Bool

-- the tag of a place
abbrev pub begins_place : Position → StreamToken → Bool
begins_place top_at (tag_token tag) = true
begins_place annotation_at (tag_token tag) = true
begins_place value_at (tag_token tag) = true
begins_place (superclass_place_at owner strict) (tag_token tag) = true
begins_place _ token = false

-- A token that assigns a handle: the tag of a string or a proxy descriptor, a suid, and the token that ends the
-- class place of an owner, which is a handle, or the null or the handle at the top of its chain.
abbrev pub assigns_handle : Position → StreamToken → Bool
assigns_handle (superclass_place_at (Some owner) strict) (tag_token null_tag) = true
assigns_handle (superclass_handle_at (Some owner) strict) (handle_token n) = true
assigns_handle (class_handle_at owner) (handle_token n) = true
assigns_handle position (tag_token string_tag) = true
assigns_handle position (tag_token long_string_tag) = true
assigns_handle position (tag_token proxy_desc_tag) = true
assigns_handle position (suid_token n) = true
assigns_handle _ token = false

abbrev pub array_is_within : ℕ → StreamToken → Bool
array_is_within longest (array_length_token n) = nat_le n longest
array_is_within longest _ = true

abbrev pub name_passes : (List ℕ → Bool) → Position → StreamToken → Bool
name_passes passes (class_name_at role) (text_token long units) = passes units
name_passes passes interface_name_at (text_token long units) = passes units
name_passes passes _ token = true

-- the gate of these limits
abbrev pub gate_of : GateLimits → TokenGate
gate_of limits label token =
    (not (begins_place label.position token)
    || (nat_le label.depth limits.depth && nat_lt label.moment.places limits.refs))
    && array_is_within limits.array token
    && (not (assigns_handle label.position token) || nat_lt (length label.moment.table) limits.handles)
    && name_passes limits.passes label.position token

abbrev pub Each : {A : Type 0} → (A → Type 0) → List A → Type 0
Each P [] = Unit {0}
Each P (x ∷ xs) = P x × Each P xs

-- a list within the limits
abbrev pub IsWithin : GateLimits → ContentTrees → Type 0
IsWithin limits list =
    (depth_of list ≤ limits.depth) × (refs_of list ≤ limits.refs)
    × Each (λ n. n ≤ limits.array) (array_lengths list) × Each (λ n. n ≤ limits.handles) (epoch_handles list)
    × Each (λ name. IsTrue (limits.passes name)) (checked_names list)

-- The gate lets through each token of a list that obeys the format exactly where the list is within the limits.
abbrev pub Limited : Type 0
Limited =
    (limits : GateLimits) (list : ContentTrees) → WellFormed list
    → AllPass (gate_of limits) (tokens_of list) ↔ IsWithin limits list
