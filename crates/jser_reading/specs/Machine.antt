-- The reading machine, on tokens: an LL(1) parser of the grammar. At each state the next token has one label,
-- which tells what the format takes there, and a token that it takes leads to one state.
use Rattle.std.specs.Prelude.{ℕ, suc, ◌≡◌, ◌||◌, Bool, true, false, List, [], ◌∷◌, Some, None}
use Rattle.jser_table.specs.Entries.{text_entry, pending_entry}
use Rattle.jser_table.specs.Names.{name_kind}
use Rattle.jser_grammar.specs.Codes.{is_object_code}
use Rattle.jser_reading.specs.Roles.{object_owner, array_owner, enum_owner, class_owner, Role, own_class, superclass}
use Rattle.jser_reading.specs.Moments.{Moment, beginning, tick, assign, closing, emptied, next_number}
use Rattle.jser_reading.specs.Labels.{Tag, null_tag, reference_tag, class_desc_tag, object_tag, string_tag, array_tag, class_tag, long_string_tag, proxy_desc_tag, enum_tag, StreamToken, header_token, tag_token, block_tag_token, end_tag_token, reset_tag_token, handle_token, suid_token, flags_token, field_count_token, interface_count_token, array_length_token, code_token, text_token, block_length_token, prims_token, bytes_token, Piece, piece}
use Rattle.jser_reading.specs.Goals.{raw_part, value_part, body_parts, Goal, header_goal, top_goal, annotation_goal, back_handle_goal, text_place_goal, text_handle_goal, field_name_goal, string_goal, block_length_goal, block_goal, array_length_goal, parts_goal, class_goal, class_handle_goal, made_goal, superclass_goal, superclass_handle_goal, close_goal, class_name_goal, suid_goal, flags_goal, field_count_goal, fields_goal, interface_count_goal, interfaces_goal, State, settled}
use Rattle.jser_reading.specs.Accepts.{label_of, Accepts}

-- behind the tag of a proxy descriptor, which assigns its handle
abbrev pub open_proxy : Role → ℕ → Moment → List Goal → State
open_proxy role d m goals = (assign m pending_entry, interface_count_goal role d (next_number m) ∷ goals)

-- behind the tag of a value at depth d
abbrev pub begin : ℕ → Moment → Tag → List Goal → State
begin d m null_tag goals = (tick m, goals)
begin d m reference_tag goals = (tick m, back_handle_goal d ∷ goals)
begin d m class_desc_tag goals = (tick m, class_name_goal (own_class None) d ∷ goals)
begin d m proxy_desc_tag goals = open_proxy (own_class None) d (tick m) goals
begin d m object_tag goals = (tick m, class_goal object_owner d ∷ goals)
begin d m string_tag goals = (assign (tick m) text_entry, string_goal false d ∷ goals)
begin d m long_string_tag goals = (assign (tick m) text_entry, string_goal true d ∷ goals)
begin d m array_tag goals = (tick m, class_goal array_owner d ∷ goals)
begin d m class_tag goals = (tick m, class_goal class_owner d ∷ goals)
begin d m enum_tag goals = (tick m, class_goal enum_owner d ∷ goals)

-- a field with the code `[` or `L` has a type text
abbrev pub type_goals : Bool → ℕ → List Goal → List Goal
type_goals true d goals = text_place_goal d ∷ goals
type_goals false d goals = goals

-- behind a token that the goal takes
abbrev pub advance_at : Moment → Goal → List Goal → StreamToken → State
advance_at m header_goal goals header_token = (m, goals)
-- contents
advance_at m top_goal goals (tag_token tag) = begin 1 m tag (top_goal ∷ goals)
advance_at m top_goal goals (block_tag_token long) = (m, block_length_goal long 0 ∷ top_goal ∷ goals)
advance_at m top_goal goals reset_tag_token = (emptied m, top_goal ∷ goals)
advance_at m (annotation_goal d) goals (tag_token tag) = begin (suc d) m tag (annotation_goal d ∷ goals)
advance_at m (annotation_goal d) goals (block_tag_token long) =
    (m, block_length_goal long d ∷ annotation_goal d ∷ goals)
advance_at m (annotation_goal d) goals end_tag_token = (m, goals)
advance_at m (block_length_goal long d) goals (block_length_token long' n) = (m, block_goal d n ∷ goals)
advance_at m (block_goal d (suc n)) goals (bytes_token bytes) = (m, goals)
-- references, strings and text places
advance_at m (back_handle_goal d) goals (handle_token n) = (m, goals)
advance_at m (text_handle_goal d) goals (handle_token n) = (m, goals)
advance_at m (string_goal long d) goals (text_token long' units) = (m, goals)
advance_at m (text_place_goal d) goals (tag_token reference_tag) = (m, text_handle_goal d ∷ goals)
advance_at m (text_place_goal d) goals (tag_token string_tag) = (assign m text_entry, string_goal false d ∷ goals)
advance_at m (text_place_goal d) goals (tag_token long_string_tag) = (assign m text_entry, string_goal true d ∷ goals)
-- sections and bodies
advance_at m (parts_goal d (raw_part c (suc n) ∷ parts)) goals (prims_token ps) = (m, parts_goal d parts ∷ goals)
advance_at m (parts_goal d (value_part ∷ parts)) goals (tag_token tag) =
    begin (suc d) m tag (parts_goal d parts ∷ goals)
advance_at m (array_length_goal elements d) goals (array_length_token n) =
    (m, parts_goal d (body_parts elements n) ∷ goals)
-- class places: the entry of the owner is made when the class has been read
advance_at m (class_goal owner d) goals (tag_token class_desc_tag) =
    (m, class_name_goal (own_class (Some owner)) d ∷ made_goal owner d (next_number m) ∷ goals)
advance_at m (class_goal owner d) goals (tag_token proxy_desc_tag) =
    open_proxy (own_class (Some owner)) d m (made_goal owner d (next_number m) ∷ goals)
advance_at m (class_goal owner d) goals (tag_token reference_tag) = (m, class_handle_goal owner d ∷ goals)
advance_at m (class_handle_goal owner d) goals (handle_token n) = (m, made_goal owner d n ∷ goals)
-- superclass places: the descriptor is closed when its superclass has been read
advance_at m (superclass_goal owner strict d number layer) goals (tag_token null_tag) =
    (closing (tick m) number (layer ∷ []), goals)
advance_at m (superclass_goal owner strict d number layer) goals (tag_token class_desc_tag) =
    (tick m, class_name_goal (superclass owner strict) d ∷ close_goal number (next_number m) layer ∷ goals)
advance_at m (superclass_goal owner strict d number layer) goals (tag_token proxy_desc_tag) =
    open_proxy (superclass owner strict) d (tick m) (close_goal number (next_number m) layer ∷ goals)
advance_at m (superclass_goal owner strict d number layer) goals (tag_token reference_tag) =
    (tick m, superclass_handle_goal owner strict d number layer ∷ goals)
advance_at m (superclass_handle_goal owner strict d number layer) goals (handle_token n) =
    (m, close_goal number n layer ∷ goals)
-- a plain descriptor, whose handle its suid assigns
advance_at m (class_name_goal role d) goals (text_token long units) = (m, suid_goal role d (name_kind units) ∷ goals)
advance_at m (suid_goal role d kind) goals (suid_token n) =
    (assign m pending_entry, flags_goal role d (next_number m) kind ∷ goals)
advance_at m (flags_goal role d number kind) goals (flags_token flags) =
    (m, field_count_goal role d number kind flags ∷ goals)
advance_at m (field_count_goal role d number kind flags) goals (field_count_token n) =
    (m, fields_goal role d number kind flags false [] n ∷ goals)
advance_at m (fields_goal role d number kind flags seen codes (suc n)) goals (code_token c) = (
  m,
  field_name_goal d ∷ type_goals (is_object_code c) d
      (fields_goal role d number kind flags (seen || is_object_code c) (c ∷ codes) n ∷ goals),
)
advance_at m (field_name_goal d) goals (text_token long units) = (m, goals)
-- a proxy descriptor
advance_at m (interface_count_goal role d number) goals (interface_count_token n) =
    (m, interfaces_goal role d number n ∷ goals)
advance_at m (interfaces_goal role d number (suc n)) goals (text_token long units) =
    (m, interfaces_goal role d number n ∷ goals)
advance_at m goal goals token = (m, goal ∷ goals)

abbrev pub advance : State → StreamToken → State
advance (m, []) token = (m, [])
advance (m, goal ∷ goals) token = advance_at m goal goals token

-- a new stream: its header, and then contents at the top
abbrev pub begin_state : State
begin_state = (beginning, header_goal ∷ top_goal ∷ [])

-- only the top is left: the stream may end here
abbrev pub IsDone : State → Type 0
IsDone (m, goals) = goals ≡ top_goal ∷ []

-- the machine takes these tokens, each with its label
abbrev pub Runs : State → List Piece → Type 0
Runs s [] = Unit {0}
Runs s (piece label token ∷ rest) =
    (label ≡ label_of (settled s)) × Accepts (label_of (settled s)) token × Runs (advance (settled s) token) rest

-- the state behind them
abbrev pub left : State → List Piece → State
left s [] = s
left s (piece label token ∷ rest) = left (advance (settled s) token) rest

-- it takes them all, and may end
abbrev pub Reads : State → List Piece → Type 0
Reads s [] = IsDone (settled s)
Reads s (piece label token ∷ rest) =
    (label ≡ label_of (settled s)) × Accepts (label_of (settled s)) token × Reads (advance (settled s) token) rest
