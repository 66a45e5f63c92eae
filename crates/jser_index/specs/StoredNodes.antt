-- Nodes as a graph keeps them, and what they stand for.
use Rattle.std.specs.Prelude.{ℕ, ◌≡◌, ◌+◌, ◌*◌, List, Option, Some, None}
use Rattle.jser_prim.specs.ModifiedUtf8.{IsUnits, modified_utf8}
use Rattle.jser_shown.specs.Nodes.{text_node, plain_desc_node, proxy_desc_node, class_object_node, array_node, enum_const_node, object_node}
use Rattle.jser_shown.specs.Nodes.{NodeKind as ToldKind}
use Rattle.jser_shown.specs.Nodes.{Node as ToldNode}
use Rattle.jser_index.specs.declared.node.NodeKind.{NodeKind}
use Rattle.jser_index.specs.declared.node.NodeKind.TheVariants as kind
use Rattle.jser_index.specs.declared.node.StoredKind.{StoredKind}
use Rattle.jser_index.specs.declared.node.StoredKind.TheVariants as stored_kind
use Rattle.jser_index.specs.declared.node.StoredNode.{StoredNode}
use Rattle.jser_index.specs.declared.spot.Spot.{Spot}
use Rattle.jser_index.specs.declared.spot.Spot.TheVariants as spot
use Rattle.jser_index.specs.Keeping.{Kept, units_at, IsIn}
use Rattle.jser_index.specs.Listed.{Listed, with_last}

abbrev pub view_kind : NodeKind → ToldKind
view_kind kind.Text = text_node
view_kind kind.PlainDesc = plain_desc_node
view_kind kind.ProxyDesc = proxy_desc_node
view_kind kind.ClassObject = class_object_node
view_kind kind.Array = array_node
view_kind kind.EnumConst = enum_const_node
view_kind kind.Object = object_node

abbrev pub kind_in : StoredKind → ToldKind
kind_in stored_kind.Text = text_node
kind_in stored_kind.NearText = text_node
kind_in stored_kind.FarText = text_node
kind_in stored_kind.PlainDesc = plain_desc_node
kind_in stored_kind.ProxyDesc = proxy_desc_node
kind_in stored_kind.ClassObject = class_object_node
kind_in stored_kind.Array = array_node
kind_in stored_kind.EnumConst = enum_const_node
kind_in stored_kind.Object = object_node

-- the place of its tag, from the lower 32 bits and the others
abbrev pub place_in : StoredNode → ℕ
place_in stored = stored.place_low + 4294967296 * stored.place_high

-- where the units of a node of this kind are kept, if there are any
abbrev pub spot_of : StoredKind → (start len : ℕ) → Option Spot
spot_of stored_kind.NearText start len = Some (spot.Near start len)
spot_of stored_kind.FarText start len = Some (spot.Far start)
spot_of _ start len = None

abbrev pub spot_in : StoredNode → Option Spot
spot_in stored = spot_of stored.kind stored.start stored.len

abbrev pub units_in : Kept → Option Spot → Option (List ℕ)
units_in kept None = None
units_in kept (Some spot) = Some (units_at kept spot)

abbrev pub view_node : Kept → StoredNode → ToldNode
view_node kept stored = record { kind = kind_in stored.kind; place = place_in stored; units = units_in kept (spot_in stored) }

-- a node of this kind, whose tag stands at this place, and whose units, if it has any, are kept at this spot
pub record IsStored (stored : StoredNode) (kind : ToldKind) (place : ℕ) (spot : Option Spot) : Type 0 where
  pub kind_is : kind_in stored.kind ≡ kind
  pub place_is : place_in stored ≡ place
  pub spot_is : spot_in stored ≡ spot

-- there are units at its spot, if it has one
abbrev pub HasUnits : Kept → Option Spot → Type 0
HasUnits kept None = Unit {0}
HasUnits kept (Some spot) = IsIn kept spot

abbrev pub IsAmong : Kept → StoredNode → Type 0
IsAmong kept stored = HasUnits kept (spot_in stored)

-- the node of a string was added whose tag stands at this place, with the units that its bytes spell
pub record AddsNode (text : List ℕ) (place : ℕ) (old new : Listed ToldNode) : Type 0 where
  pub units : List ℕ
  pub spelled : (told : List ℕ) → IsUnits told → modified_utf8 told ≡ text → units ≡ told
  pub is : new ≡ with_last old (record { kind = text_node; place = place; units = Some units })
