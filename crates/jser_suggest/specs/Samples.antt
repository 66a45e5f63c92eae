-- What is known after some good streams.
use Rattle.std.specs.Prelude.{◌≡◌, ◌⊎◌, ℕ, ◌≤◌, true, List, [], ◌∷◌, length}
use Rattle.jser_table.specs.Names.{ElementOf, element, primitive_element, malformed_element, element_of}
use Rattle.jser_grammar.specs.Trees.{ContentTrees}
use Rattle.jser_grammar.specs.CheckedNames.{checked_names}
use Rattle.jser_grammar.specs.Counts.{depth_of, refs_of, array_lengths}
use Rattle.jser_reading.specs.GateLimits.{Each}
use Rattle.jser_verdict.specs.Passing.{Passes}
use Rattle.jser_reader.specs.Gates.{open_gate}
use Rattle.jser_suggest.specs.Suggested.{Known, is_plain, is_writable}

-- this holds of one of them
abbrev pub Some_of : {A : Type 0} → (A → Type 0) → List A → Type 0
Some_of P [] = ⊥
Some_of P (x ∷ xs) = P x ⊎ Some_of P xs

-- the name is one of these
abbrev pub Among : List (List ℕ) → List ℕ → Type 0
Among names name = Some_of (λ other. name ≡ other) names

-- a class name is one of these by its element; one that names no class is so anyhow
abbrev pub ElementAmong : List (List ℕ) → ElementOf → Type 0
ElementAmong names (element name) = Among names name
ElementAmong names primitive_element = Unit {0}
ElementAmong names malformed_element = ⊥

-- The bytes are a stream of this list, with no more than what is known.
pub record Fits (known : Known) (bytes : List ℕ) (list : ContentTrees) : Type 0 where
  pub passes : Passes open_gate bytes list
  pub bytes_fit : length bytes ≤ known.bytes
  pub refs_fit : refs_of list ≤ known.refs
  pub depth_fits : depth_of list ≤ known.depth
  pub arrays_fit : Each (λ n. n ≤ known.array) (array_lengths list)
  pub names_fit : Each (λ name. ElementAmong known.names (element_of name)) (checked_names list)

-- it is a stream, of a list of which this holds
abbrev pub OfStream : (List ℕ → ContentTrees → Type 0) → List ℕ → Type 0
OfStream P bytes = (list : ContentTrees) × Passes open_gate bytes list × P bytes list

-- the list has an array of this length; a checked name with this element
abbrev pub HasArray : ℕ → ContentTrees → Type 0
HasArray n list = Some_of (λ m. n ≡ m) (array_lengths list)

abbrev pub HasElement : List ℕ → ContentTrees → Type 0
HasElement name list = Some_of (λ checked. element_of checked ≡ element name) (checked_names list)

-- All that is known comes from these streams, and is no more than they have. With none of them all counts are 0.
pub record AreKnown (streams : List (List ℕ)) (known : Known) : Type 0 where
  pub fit : Each (λ bytes. (list : ContentTrees) × Fits known bytes list) streams
  pub writable : (name : List ℕ) → Among known.names name → is_writable name ≡ true
  pub plain : (name : List ℕ) → Among known.names name → is_plain name ≡ true
  pub bytes_from : (known.bytes ≡ 0) ⊎ Some_of (OfStream (λ bytes list. length bytes ≡ known.bytes)) streams
  pub refs_from : (known.refs ≡ 0) ⊎ Some_of (OfStream (λ bytes list. refs_of list ≡ known.refs)) streams
  pub depth_from : (known.depth ≡ 0) ⊎ Some_of (OfStream (λ bytes list. depth_of list ≡ known.depth)) streams
  pub array_from : (known.array ≡ 0) ⊎ Some_of (OfStream (λ bytes list. HasArray known.array list)) streams
  pub names_from : (name : List ℕ) → Among known.names name → Some_of (OfStream (λ bytes list. HasElement name list)) streams
