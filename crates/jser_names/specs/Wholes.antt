-- The bytes of a source that are kept while they are checked.
use Rattle.std.specs.Prelude.{ℕ, ◌≡◌, List}
use Rattle.jser_grammar.specs.Trees.{ContentTrees}
use Rattle.jser_verdict.specs.Passing.{Passes}
use Rattle.jser_reader.specs.Gates.{open_gate}

-- these are the bytes, and they are a stream within the greatest limits
pub record IsStream (bytes kept : List ℕ) : Type 0 where
  pub is : kept ≡ bytes
  pub list : ContentTrees
  pub passes : Passes open_gate bytes list
