-- How far the trees in memory go: a list of contents that obeys the format, no deeper than a recursion may
-- go, and no longer than 2^31 - 1 bytes.
use Rattle.std.specs.Prelude.{◌≤◌, length}
use Rattle.jser_grammar.specs.Trees.{ContentTrees}
use Rattle.jser_grammar.specs.Spelling.{spelling}
use Rattle.jser_grammar.specs.WellFormed.{WellFormed}
use Rattle.jser_grammar.specs.Counts.{depth_of}
use Rattle.jser_grammar.specs.Caps.{most_tree_bytes, most_tree_depth}

pub record IsContents (contents : ContentTrees) : Type 0 where
  pub well_formed : WellFormed contents
  pub depth : depth_of contents ≤ most_tree_depth
  pub size : length (spelling contents) ≤ most_tree_bytes
