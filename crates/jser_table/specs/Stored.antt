-- What contracts see of the chains that a table keeps.
use Rattle.std.specs.Prelude.{ℕ, List}
use Rattle.jser_table.specs.declared.layer.Layer.{Layer}

-- the chains and the lines, and how many more may be added with no new memory
pub record ChainList : Type 0 where
  pub listed : List (List Layer)
  pub lines : List (List ℕ)
  pub room : ℕ
