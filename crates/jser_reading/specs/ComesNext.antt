-- Which token may come next behind a front of tokens, told by whole streams alone: no machine occurs here.
use Rattle.std.specs.Prelude.{◌≡◌, ◌⊎◌, List, [], ◌∷◌, ◌++◌}
use Rattle.jser_grammar.specs.Trees.{ContentTrees}
use Rattle.jser_grammar.specs.WellFormed.{WellFormed}
use Rattle.jser_reading.specs.Moments.{Moment, tick}
use Rattle.jser_reading.specs.Labels.{reference_tag, StreamToken, tag_token, Position, nowhere, top_at, annotation_at, value_at, text_place_at, class_place_at, superclass_place_at, back_handle_at, text_handle_at, class_handle_at, superclass_handle_at, Label, Piece, piece}
use Rattle.jser_reading.specs.Tokens.{tokens_of}
use Rattle.jser_reading.specs.Accepts.{Accepts}

-- some stream has these first tokens, and a next one with this label
abbrev pub BeginsSome : List Piece → Label → Type 0
BeginsSome front label =
    (list : ContentTrees) × (token : StreamToken) × (rest : List Piece) × WellFormed list
    × (tokens_of list ≡ front ++ (piece label token ∷ rest))

-- the label of the handle behind the tag of a reference

abbrev pub handle_position : Position → Position
handle_position top_at = back_handle_at
handle_position annotation_at = back_handle_at
handle_position value_at = back_handle_at
handle_position text_place_at = text_handle_at
handle_position (class_place_at owner) = class_handle_at owner
handle_position (superclass_place_at owner strict) = superclass_handle_at owner strict
handle_position _ = nowhere

abbrev pub handle_moment : Position → Moment → Moment
handle_moment top_at m = tick m
handle_moment annotation_at m = tick m
handle_moment value_at m = tick m
handle_moment (superclass_place_at owner strict) m = tick m
handle_moment _ m = m

abbrev pub handle_label : Label → Label
handle_label label =
    record { position = handle_position label.position; depth = label.depth; moment = handle_moment label.position label.moment }

-- A token with this label may come next: in some stream it does; or a reference's tag, which may stand there,
-- went just before, and the label is that of its handle. Then there may be no handle that fits, and no stream.
abbrev pub ComesNext : List Piece → Label → Type 0
ComesNext front label = BeginsSome front label
    ⊎ ((before : List Piece) × (tag_label : Label) × BeginsSome before tag_label
    × Accepts tag_label (tag_token reference_tag)
    × (front ≡ before ++ (piece tag_label (tag_token reference_tag) ∷ [])) × (label ≡ handle_label tag_label))
