-- What is found along the tokens of a stream: its nodes, its owners and its checked names. Besides a token it is told how
-- many handles of the epoch were assigned before it, which its label knows. Each tag but TC_NULL and TC_REFERENCE begins a
-- node, which is made at the first token before which its handle is assigned.
use Rattle.std.specs.Prelude.{ℕ, Bool, true, false, if◌then◌else◌, nat_lt, List, [], ◌∷◌, ◌++◌, length, slice_set, Option, Some, None}
use Rattle.jser_reading.specs.Labels.{Tag, null_tag, reference_tag, class_desc_tag, object_tag, string_tag, array_tag, class_tag, long_string_tag, proxy_desc_tag, enum_tag, StreamToken, header_token, tag_token, reset_tag_token, interface_count_token, array_length_token, code_token, text_token, Piece, piece}
use Rattle.jser_reading.specs.TokenBytes.{bytes_of}
use Rattle.jser_shown.specs.Nodes.{NodeKind, text_node, plain_desc_node, proxy_desc_node, class_object_node, array_node, enum_const_node, object_node, Node, Nodes, place_after}
use Rattle.jser_shown.specs.Owners.{OwnerNode, owner_node}

-- a tag whose node is not made yet: what it begins, its place, and where its owner stands among the owners
pub record Begun : Type 0 where
  pub kind : NodeKind
  pub place : ℕ
  pub position : ℕ

-- The place of the next token; the tags whose nodes are not made yet, the last one first; the nodes of the epoch, and
-- those of the epochs before; the owners in the order of their tags; the names; and whether the next text is a name,
-- where it is no string.
pub record Finding : Type 0 where
  pub place : ℕ
  pub begun : List Begun
  pub nodes : Nodes
  pub ended : List Nodes
  pub owners : List OwnerNode
  pub names : List (List ℕ)
  pub is_name : Bool

abbrev pub begin_finding : Finding
begin_finding = record { place = 0; begun = []; nodes = []; ended = []; owners = []; names = []; is_name = false }

-- what a tag begins

abbrev pub kind_begun : Tag → Option NodeKind
kind_begun null_tag = None
kind_begun reference_tag = None
kind_begun class_desc_tag = Some plain_desc_node
kind_begun proxy_desc_tag = Some proxy_desc_node
kind_begun object_tag = Some object_node
kind_begun array_tag = Some array_node
kind_begun class_tag = Some class_object_node
kind_begun enum_tag = Some enum_const_node
kind_begun string_tag = Some text_node
kind_begun long_string_tag = Some text_node

abbrev pub is_owner_kind : NodeKind → Bool
is_owner_kind object_node = true
is_owner_kind array_node = true
is_owner_kind class_object_node = true
is_owner_kind enum_const_node = true
is_owner_kind text_node = false
is_owner_kind plain_desc_node = false
is_owner_kind proxy_desc_node = false

-- a node is made at a token: of a string with the units of that text, of an array with that length

abbrev pub units_made : NodeKind → StreamToken → Option (List ℕ)
units_made text_node (text_token long units) = Some units
units_made kind token = None

abbrev pub elements_made : NodeKind → StreamToken → ℕ
elements_made array_node (array_length_token n) = n
elements_made kind token = 0

abbrev pub node_made : Begun → StreamToken → Node
node_made b token = record { kind = b.kind; place = b.place; units = units_made b.kind token }

abbrev pub owners_made : Begun → StreamToken → (number : ℕ) → List OwnerNode → List OwnerNode
owners_made b token number owners =
    if is_owner_kind b.kind then slice_set owners b.position (owner_node number (elements_made b.kind token)) else owners

abbrev pub make_begun : StreamToken → List Begun → Finding → Finding
make_begun token [] x = x
make_begun token (b ∷ begun) x =
    record x { begun = begun; nodes = x.nodes ++ (node_made b token ∷ []); owners = owners_made b token (length x.nodes) x.owners }

-- the node of the last tag begun, where its handle is among so many that are assigned
abbrev pub made_by : (assigned : ℕ) → StreamToken → Finding → Finding
made_by assigned token x = if nat_lt (length x.nodes) assigned then make_begun token x.begun x else x

abbrev pub begin_kind : Option NodeKind → Finding → Finding
begin_kind None x = x
begin_kind (Some kind) x =
    record x {
      begun = record { kind = kind; place = x.place; position = length x.owners } ∷ x.begun;
      owners = if is_owner_kind kind then x.owners ++ (owner_node 0 0 ∷ []) else x.owners;
    }

abbrev pub begun_by : Tag → Finding → Finding
begun_by tag x = record (begin_kind (kind_begun tag) x) { is_name = true }

-- a token by itself

abbrev pub take_token : StreamToken → Finding → Finding
take_token (tag_token tag) x = begun_by tag x
take_token reset_tag_token x = record x { nodes = []; ended = x.ended ++ (x.nodes ∷ []) }
take_token (interface_count_token n) x = record x { is_name = true }
take_token (code_token n) x = record x { is_name = false }
take_token token x = x

-- a text that is a name
abbrev pub take_name : (is_string : Bool) → StreamToken → Finding → Finding
take_name false (text_token long units) x = if x.is_name then record x { names = x.names ++ (units ∷ []) } else x
take_name is_string token x = x

abbrev pub moved : List ℕ → Finding → Finding
moved bytes x = record x { place = place_after x.place bytes }

-- one token, before which so many handles of the epoch were assigned
abbrev pub find : (assigned : ℕ) → StreamToken → Finding → Finding
find assigned token x =
    moved (bytes_of token) (take_token token (take_name (nat_lt (length x.nodes) assigned) token (made_by assigned token x)))

-- what is found along these tokens
abbrev pub found : Finding → List Piece → Finding
found x [] = x
found x (piece label token ∷ rest) = found (find (length label.moment.table) token x) rest

-- at the end of a stream the last node is made, if it is not
abbrev pub finished : Finding → Finding
finished x = make_begun header_token x.begun x

-- the nodes of all epochs
abbrev pub nodes_found : Finding → List Nodes
nodes_found x = x.ended ++ (x.nodes ∷ [])
