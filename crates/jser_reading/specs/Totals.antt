-- The counts of a list, as they are kept along its tokens: a content begins with each tag at the top, a place with
-- each tag of a place, and a handle is assigned by each token that assigns one.
use Rattle.std.specs.Prelude.{ℕ, suc, ◌≡◌, max, Bool, true, false, List, [], ◌∷◌}
use Rattle.jser_grammar.specs.Trees.{ContentTrees}
use Rattle.jser_grammar.specs.WellFormed.{WellFormed}
use Rattle.jser_grammar.specs.Counts.{content_count, refs_of, depth_of, handle_count}
use Rattle.jser_reading.specs.Labels.{StreamToken, Position, top_at, Piece, piece}
use Rattle.jser_reading.specs.Tokens.{tokens_of}
use Rattle.jser_reading.specs.GateLimits.{begins_place, assigns_handle}

abbrev pub begins_content : Position → StreamToken → Bool
begins_content top_at token = true
begins_content _ token = false

abbrev pub one_more_if : Bool → ℕ → ℕ
one_more_if true n = suc n
one_more_if false n = n

-- how many tokens there are of a kind
abbrev pub count_of : (Position → StreamToken → Bool) → List Piece → ℕ
count_of test [] = 0
count_of test (piece label token ∷ pieces) = one_more_if (test label.position token) (count_of test pieces)

abbrev pub number_if : Bool → ℕ → ℕ
number_if true n = n
number_if false n = 0

-- the greatest depth of a place
abbrev pub deepest : List Piece → ℕ
deepest [] = 0
deepest (piece label token ∷ pieces) = max (number_if (begins_place label.position token) label.depth) (deepest pieces)

-- Along the tokens of a list that obeys the format one counts its contents, places, depth and handles.
abbrev pub Totalled : Type 0
Totalled = (list : ContentTrees) → WellFormed list →
    (count_of begins_content (tokens_of list) ≡ content_count list)
    × (count_of begins_place (tokens_of list) ≡ refs_of list)
    × (deepest (tokens_of list) ≡ depth_of list)
    × (count_of assigns_handle (tokens_of list) ≡ handle_count list)
