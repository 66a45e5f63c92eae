-- A trie of words: each word is a path from the node 0, and the node at its end is marked with its place. A word is
-- a list of letters, and a letter a number.
use Rattle.std.specs.Prelude.{ℕ, ◌≡◌, ◌<◌, length, slice_index_or, List, [], ◌∷◌, ◌++◌, Option, Some, None, option_and_then, nat_lt, nat_eq, if◌then◌else◌, Bool, true, false, ◌==◌, ◌&&◌}
use Rattle.std.specs.HashMap.{get}
use Rattle.jser_filter.specs.declared.trie.Trie.{Trie}
use Rattle.jser_filter.specs.declared.trie.Node.{Node}
use Rattle.jser_filter.specs.declared.trie.Edge.{Edge}
use Rattle.jser_filter.specs.declared.trie.Walk.{Walk}

-- the node to which a letter leads, and the mark of a node
abbrev pub Edges : Type 0
Edges = ℕ → ℕ → Option ℕ

abbrev pub Marks : Type 0
Marks = ℕ → Option ℕ

-- the lesser of two numbers, if there is one
abbrev pub least : Option ℕ → Option ℕ → Option ℕ
least None other = other
least (Some one) None = Some one
least (Some one) (Some other) = if nat_lt other one then Some other else Some one

-- the least mark on the way along a word
abbrev pub first_from : Edges → Marks → ℕ → List ℕ → Option ℕ
first_from edge mark node [] = mark node
first_from edge mark node (letter ∷ letters) =
    least (mark node) (option_and_then (λ next. first_from edge mark next letters) (edge node letter))

-- the node at the end of a word
abbrev pub node_after : Edges → ℕ → List ℕ → Option ℕ
node_after edge node [] = Some node
node_after edge node (letter ∷ letters) = option_and_then (λ next. node_after edge next letters) (edge node letter)

-- each node below the count has one path to it
pub record IsTree (edge : Edges) (count : ℕ) : Type 0 where
  pub path : ℕ → List ℕ
  pub grows : (from letter next : ℕ) → edge from letter ≡ Some next → path next ≡ path from ++ letter ∷ []
  pub from_within : (from letter next : ℕ) → edge from letter ≡ Some next → from < count
  pub within : (from letter next : ℕ) → edge from letter ≡ Some next → next < count

-- a word begins these letters
abbrev pub begins : List ℕ → List ℕ → Bool
begins [] letters = true
begins (first ∷ word) [] = false
begins (first ∷ word) (letter ∷ letters) = (first == letter) && begins word letters

-- Walking along a word letter by letter: the node, if the trie has it, and the least mark so far.

abbrev pub enter : Marks → Option ℕ → Option ℕ → Walk
enter mark first None = record { node = None; first = first }
enter mark first (Some node) = record { node = Some node; first = least first (mark node) }

abbrev pub step : Edges → Marks → Walk → ℕ → Walk
step edge mark walk letter = enter mark walk.first (option_and_then (λ node. edge node letter) walk.node)

abbrev pub walk_along : Edges → Marks → Walk → List ℕ → Walk
walk_along edge mark walk [] = walk
walk_along edge mark walk (letter ∷ letters) = walk_along edge mark (step edge mark walk letter) letters

-- What a kept trie is.

-- the node of a number, or a new one
abbrev pub blank : Node
blank = record { mark = None; first = None }

abbrev pub node_of : Trie → ℕ → Node
node_of trie node = slice_index_or trie.nodes.items node blank

abbrev pub mark_of : Trie → Marks
mark_of trie node = (node_of trie node).mark

-- the first edge, or another
abbrev pub edge_with : Option Edge → Option ℕ → ℕ → Option ℕ
edge_with None other letter = other
edge_with (Some edge) other letter = if edge.letter == letter then Some edge.to else other

abbrev pub other_edge : Trie → Edges
other_edge trie node letter = get (λ x y. nat_eq x.0 y.0 && nat_eq x.1 y.1) trie.others (node, letter)

abbrev pub edge_of : Trie → Edges
edge_of trie node letter = edge_with (node_of trie node).first (other_edge trie node letter) letter

pub record IsTrie (trie : Trie) : Type 0 where
  pub tree : IsTree (edge_of trie) (length trie.nodes.items)
  pub rooted : 0 < length trie.nodes.items

-- the least place of a word that begins these letters
abbrev pub first_of : Trie → List ℕ → Option ℕ
first_of trie letters = first_from (edge_of trie) (mark_of trie) 0 letters

-- the node at the end of the word
abbrev pub Reaches : Trie → List ℕ → ℕ → Type 0
Reaches trie word node = node_after (edge_of trie) 0 word ≡ Some node

-- nodes may have come, and no word
pub record Keeps (old new : Trie) : Type 0 where
  pub is_trie : IsTrie new
  pub first : (letters : List ℕ) → first_of new letters ≡ first_of old letters
  pub reached : (word : List ℕ) (node : ℕ) → Reaches old word node → Reaches new word node

-- the way on from a node leads to another
pub record LeadsOn (old new : Trie) (from : ℕ) (letters : List ℕ) (to : ℕ) : Type 0 where
  pub inside : to < length new.nodes.items
  pub reached : (word : List ℕ) → Reaches old word from → Reaches new (word ++ letters) to

-- one word more, with its place
pub record AddsWord (old new : Trie) (word : List ℕ) (place : ℕ) : Type 0 where
  pub is_trie : IsTrie new
  pub first : (letters : List ℕ) → first_of new letters ≡ (if begins word letters then least (first_of old letters) (Some place) else first_of old letters)
