-- What contracts see of a graph, and the list of contents for which it stands.
use Rattle.std.specs.Prelude.{ℕ, ◌≡◌, ◌-◌, nat_lt, if◌then◌else◌, List, slice_get, Option, Some, None}
use Rattle.jser_grammar.specs.Trees.{ContentTrees}
use Rattle.jser_grammar.specs.CheckedNames.{checked_names}
use Rattle.jser_grammar.specs.Wire.{BASE_WIRE_HANDLE}
use Rattle.jser_shown.specs.Nodes.{Nodes, nodes_of}
use Rattle.jser_shown.specs.Nodes.{Node as ToldNode}
use Rattle.jser_shown.specs.Owners.{owners_of}
use Rattle.jser_shown.specs.Owners.{OwnerNode as ToldOwner}
use Rattle.jser_verdict.specs.Passing.{Passes}
use Rattle.jser_reader.specs.Gates.{open_gate}
use Rattle.jser_reader.specs.declared.Totals.{Totals}
use Rattle.jser_reader.specs.Tallies.{AreTotals}
pub use Rattle.jser_reader.specs.Answers.{IfRefused}
use Rattle.jser_index.specs.declared.node.Node.{Node}
use Rattle.jser_index.specs.declared.node.StoredNode.{StoredNode}
use Rattle.jser_index.specs.StoredNodes.{view_kind}
use Rattle.jser_index.specs.Listed.{Listed, all_lists}

-- the bytes of the stream, the nodes of each epoch in the order of their handles, the checked names in the order of the
-- stream; the owners in the order of their tags; the counts
pub record GraphView : Type 0 where
  pub bytes : List ℕ
  pub nodes : List Nodes
  pub names : List (List ℕ)
  pub owners : List ToldOwner
  pub totals : Totals

-- The bytes are a stream of this list, and all that the graph tells is of that list.
pub record StandsFor (graph : GraphView) (bytes : List ℕ) (list : ContentTrees) : Type 0 where
  pub bytes_are : graph.bytes ≡ bytes
  pub passes : Passes open_gate bytes list
  pub nodes_are : graph.nodes ≡ nodes_of list
  pub names_are : graph.names ≡ checked_names list
  pub owners_are : graph.owners ≡ owners_of list
  pub totals_are : AreTotals bytes list graph.totals

abbrev pub StandsForSome : List ℕ → GraphView → Type 0
StandsForSome bytes graph = (list : ContentTrees) × StandsFor graph bytes list

-- its own bytes are a stream, and all that it tells is of the list that they spell
abbrev pub IsGraph : GraphView → Type 0
IsGraph graph = StandsForSome graph.bytes graph

-- the node with this number, counted from 0, of an epoch

abbrev pub in_list : {A : Type 0} → Option (List A) → ℕ → Option A
in_list None number = None
in_list (Some list) number = slice_get list number

abbrev pub node_in : List Nodes → (epoch number : ℕ) → Option ToldNode
node_in lists epoch number = in_list (slice_get lists epoch) number

-- by its handle, as it is written; the first one is 0x7E0000
abbrev pub node_at : List Nodes → (epoch handle : ℕ) → Option ToldNode
node_at lists epoch handle = if nat_lt handle BASE_WIRE_HANDLE then None else node_in lists epoch (handle - BASE_WIRE_HANDLE)

abbrev pub stored_in : Listed StoredNode → (epoch number : ℕ) → Option StoredNode
stored_in lists epoch number = in_list (slice_get (all_lists lists) epoch) number

-- a node, as it is told
abbrev pub IsNode : Option ToldNode → Option Node → Type 0
IsNode None None = Unit {0}
IsNode (Some told) (Some node) = (view_kind node.kind ≡ told.kind) × (node.tag_byte ≡ told.place)
IsNode _ _ = ⊥

-- the units of a string
abbrev pub text_of : Option ToldNode → Option (List ℕ)
text_of None = None
text_of (Some told) = told.units
