-- The names that a filter is asked for, in stream order: the name of each plain descriptor and each interface
-- name of a proxy descriptor (JEP 290: the class of each object, of each superclass, and each interface of a
-- proxy). Type texts and constant names are none.
use Rattle.std.specs.Prelude.{ℕ, List, []}
use Rattle.jser_grammar.specs.Trees.{ContentTrees}
use Rattle.jser_grammar.specs.InOrder.{gathered_in_contents}

abbrev pub checked_names : ContentTrees → List (List ℕ)
checked_names list = gathered_in_contents (λ elements. []) (λ names. names) list
