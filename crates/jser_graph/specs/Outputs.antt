-- The tree that a graph hands out.
use Rattle.std.specs.Prelude.{ℕ, ◌≡◌, ◌<◌, ◌≤◌, List, length}
use Rattle.jser_grammar.specs.Trees.{ContentTrees}
use Rattle.jser_grammar.specs.Counts.{depth_of}
use Rattle.jser_grammar.specs.Caps.{most_tree_bytes, most_tree_depth}
use Rattle.jser_value.specs.declared.Contents.{Contents}
use Rattle.jser_value.specs.declared.ValueCause.{ValueCause}
use Rattle.jser_value.specs.declared.ValueCause.TheVariants as cause
use Rattle.jser_value.specs.View.{view_contents}
use Rattle.jser_index.specs.Graphs.{GraphView, StandsFor}

-- the tree is the list for which the graph stands
unfoldable pub IsOf : GraphView → Contents → Type 0
IsOf graph contents = (bytes : List ℕ) (list : ContentTrees) → StandsFor graph bytes list → view_contents contents ≡ list

-- The list is deeper than 1,000; or it is not, and longer than 2^31 - 1 bytes; or it is neither, and memory ran out.
abbrev pub CauseOf : ValueCause → (bytes : List ℕ) → ContentTrees → Type 0
CauseOf cause.TooDeep bytes list = most_tree_depth < depth_of list
CauseOf cause.TooLarge bytes list = (depth_of list ≤ most_tree_depth) × (most_tree_bytes < length bytes)
CauseOf cause.NotRight bytes list = ⊥
CauseOf cause.OutOfMemory bytes list = (depth_of list ≤ most_tree_depth) × (length bytes ≤ most_tree_bytes)

unfoldable pub HasCause : GraphView → ValueCause → Type 0
HasCause graph why = (bytes : List ℕ) (list : ContentTrees) → StandsFor graph bytes list → CauseOf why bytes list
