-- How closed descriptors stand for chains. They are kept in the order in which they were closed, so a
-- superclass stands before its subclasses: the chain of a descriptor is that of its parent and then its own
-- layer.
use Rattle.std.specs.Prelude.{ℕ, ◌≡◌, ◌+◌, ◌-◌, ◌^◌, ◌<◌, ◌≤◌, ◌&&◌, List, [], ◌∷◌, ◌++◌, length, take, fold, count_by, slice_index_or, if◌then◌else◌, IsTrue, Option, Some, None}
use Rattle.jser_table.specs.declared.layer.Layer.{Layer}
use Rattle.jser_table.specs.declared.descriptor.Links.{Links}
use Rattle.jser_table.specs.declared.descriptor.Descriptor.{Descriptor}
use Rattle.jser_table.specs.declared.descriptor.Above.{Above}
use Rattle.jser_table.specs.declared.descriptor.Counted.{Counted}
use Rattle.jser_table.specs.declared.descriptor.Counted.TheVariants as counted
use Rattle.jser_table.specs.Codes.{AreLeading}
use Rattle.jser_table.specs.Chains.{own_layer, chain_in, all_serial, is_serial, is_filled, IsFront}
use Rattle.jser_table.specs.Sections.{HasSection, sections_of, down_to, layer_of, filled_layers, HoldsFor}
use Rattle.jser_table.specs.declared.descriptor.Filed.{Filed}
use Rattle.jser_table.specs.Lined.{AreLined}
use Rattle.jser_table.specs.Upwards.{IsUpward}
use Rattle.jser_table.specs.Paths.{section_in, ArePaths}

-- the chain of this parent, if there is one
abbrev pub chain_of_parent : List (List Layer) → Option ℕ → List Layer
chain_of_parent chains None = []
chain_of_parent chains (Some parent) = chain_in chains parent

-- the chain that a class stands under, by its links
abbrev pub chain_above : List (List Layer) → Option Links → List Layer
chain_above chains None = []
chain_above chains (Some links) = chain_in chains links.parent

abbrev pub with_chain : List (List Layer) → Descriptor → List (List Layer)
with_chain chains d = chains ++ (chain_above chains d.links ++ d.layer ∷ []) ∷ []

-- the chains of these descriptors, in the same order
unfoldable pub chains_of : List Descriptor → List (List Layer)
chains_of descriptors = fold with_chain [] descriptors

-- the superclasses of a chain: all layers but the last
abbrev pub front_of : List Layer → List Layer
front_of chain = take (length chain - 1) chain

-- how many layers of a chain count
abbrev pub count_of : Counted → List Layer → ℕ
count_of counted.Layers chain = length chain
count_of counted.Filled chain = count_by is_filled chain

-- that number, as a descriptor tells it
abbrev pub told_count : Counted → Descriptor → ℕ
told_count counted.Layers d = d.layers
told_count counted.Filled d = d.filled

-- both links lead to superclasses, which were closed before
abbrev pub AreLinks : List (List Layer) → ℕ → Option Links → Type 0
AreLinks chains place None = Unit {0}
AreLinks chains place (Some links) =
    (links.parent < place) × (links.jump < place) × IsFront (chain_in chains links.jump) (chain_in chains place)

-- what a descriptor knows of its chain as a whole
pub record Knows (chain : List Layer) (d : Descriptor) : Type 0 where
  pub layers : d.layers ≡ length chain
  pub filled : d.filled ≡ count_by is_filled chain
  pub serial : d.is_serial ≡ all_serial chain

-- the number of the lowest section of a chain, if it has one
abbrev pub IsLast : List (List Layer) → (chain : List Layer) → Option ℕ → Type 0
IsLast chains chain None = filled_layers chain ≡ []
IsLast chains chain (Some last) = HasSection chains last × (down_to chains last ≡ filled_layers chain)

-- what a descriptor tells of its chain
pub record IsTold (chains : List (List Layer)) (place : ℕ) (d : Descriptor) : Type 0 where
  pub own : chain_in chains place ≡ chain_above chains d.links ++ d.layer ∷ []
  pub known : Knows (chain_in chains place) d
  pub within : d.layers ≤ place + 1
  pub links : AreLinks chains place d.links
  pub last : IsLast chains (chain_in chains place) d.last

-- each descriptor tells of its chain
abbrev pub AreTold : List Descriptor → Type 0
AreTold descriptors =
    (place : ℕ) (d : Descriptor) → place < length descriptors → d ≡ slice_index_or descriptors place d → IsTold (chains_of descriptors) place d

-- the lowest section of a class: its own, if its layer has one, and else that of its parent
abbrev pub IsLastUnder : Layer → (section : ℕ) (above last : Option ℕ) → Type 0
IsLastUnder layer section above last = last ≡ (if is_filled layer then Some section else above)

-- what is kept of a section
pub record IsFiled (chains : List (List Layer)) (number : ℕ) (filed : Filed) : Type 0 where
  pub class_in : filed.class < length chains
  pub chain : down_to chains number ≡ filled_layers (chain_in chains filed.class)
  pub filled : IsTrue (is_filled (layer_of chains number))
  pub own : own_layer (chain_in chains filed.class) ≡ Some (layer_of chains number)
  pub holds : HoldsFor (layer_of chains number) (section_in filed)
  pub leading : AreLeading (layer_of chains number).codes filed.leading
  pub upward : IsUpward chains number filed.upward

-- all sections are kept
pub record AreFiled (chains : List (List Layer)) (sections : List Filed) : Type 0 where
  pub count : length (sections_of chains) ≡ length sections
  pub each : (number : ℕ) (filed : Filed) → number < length sections → filed ≡ slice_index_or sections number filed → IsFiled chains number filed

-- the closed descriptors, and their sections
pub record AreShelved (descriptors : List Descriptor) (sections : List Filed) : Type 0 where
  pub told : AreTold descriptors
  pub lined : AreLined descriptors
  pub filed : AreFiled (chains_of descriptors) sections
  pub paths : ArePaths (chains_of descriptors) sections
  pub fewer : length descriptors ≤ 2 ^ 32 - 3

-- the links of a class under this parent
pub record LinksTo (chains : List (List Layer)) (parent : ℕ) (links : Links) : Type 0 where
  pub parent_is : links.parent ≡ parent
  pub parent_in : parent < length chains
  pub jump_in : links.jump < length chains
  pub jump_front : IsFront (chain_in chains links.jump) (chain_in chains parent)

-- the same, where there may be no parent
abbrev pub LinkUnder : List (List Layer) → Option ℕ → Option Links → Type 0
LinkUnder chains None None = Unit {0}
LinkUnder chains None (Some links) = ⊥
LinkUnder chains (Some parent) None = ⊥
LinkUnder chains (Some parent) (Some links) = LinksTo chains parent links

-- what is known of the superclasses of a class under this parent, if it has one
pub record IsAbove (chains : List (List Layer)) (parent : Option ℕ) (above : Above) : Type 0 where
  pub layers : above.layers ≡ length (chain_of_parent chains parent)
  pub filled : above.filled ≡ count_by is_filled (chain_of_parent chains parent)
  pub serial : above.is_serial ≡ all_serial (chain_of_parent chains parent)
  pub within : above.layers ≤ length chains
  pub fewer : above.filled ≤ above.layers
  pub links : LinkUnder chains parent above.links
  pub last : IsLast chains (chain_of_parent chains parent) above.last

-- a descriptor of this layer under these superclasses, which knows nothing of the layer as yet but that it is there
abbrev pub descriptor_begun : Above → Layer → Descriptor
descriptor_begun above layer = record {
  layer = layer;
  links = above.links;
  layers = above.layers + 1;
  filled = above.filled;
  last = above.last;
  is_serial = above.is_serial;
}

-- that descriptor with all that its layer adds, where this is the number of the layer's section, if it has one
abbrev pub descriptor_whole : Descriptor → (section : ℕ) → Descriptor
descriptor_whole d section = record {
  layer = d.layer;
  links = d.links;
  layers = d.layers;
  filled = d.filled + (if is_filled d.layer then 1 else 0);
  last = if is_filled d.layer then Some section else d.last;
  is_serial = d.is_serial && is_serial d.layer;
}

-- a descriptor of this layer, made to stand under this parent
pub record IsUnder (chains : List (List Layer)) (parent : Option ℕ) (layer : Layer) (d : Descriptor) : Type 0 where
  pub layer_is : d.layer ≡ layer
  pub links : LinkUnder chains parent d.links
  pub known : Knows (chain_of_parent chains parent ++ layer ∷ []) d
  pub within : d.layers ≤ length chains + 1
  pub last : IsLast (chains ++ (chain_of_parent chains parent ++ layer ∷ []) ∷ []) (chain_of_parent chains parent ++ layer ∷ []) d.last

-- One link up from the class at this place, with a count that is still over the bound.
pub record GoesUp (counted : Counted) (bound : ℕ) (chains : List (List Layer)) (place higher : ℕ) : Type 0 where
  pub before : higher < place
  pub front : IsFront (chain_in chains higher) (chain_in chains place)
  pub over : bound < count_of counted (chain_in chains higher)

-- The highest superclass, or the class itself, whose count is over the bound: `front` is its chain, and
-- `whole` that of the class.
pub record IsHighest (counted : Counted) (bound : ℕ) (whole front : List Layer) : Type 0 where
  pub is_front : IsFront front whole
  pub over : bound < count_of counted front
  pub least : count_of counted (front_of front) ≤ bound
