-- What holds of the definitions alone.
use Rattle.std.specs.Prelude.{◌≡◌, ◌≤◌, Some}
use Rattle.jser_grammar.specs.Trees.{ContentTrees}
use Rattle.jser_grammar.specs.Spelling.{spelling}
use Rattle.jser_grammar.specs.WellFormed.{WellFormed}
use Rattle.jser_grammar.specs.Counts.{depth_of}
use Rattle.jser_grammar.specs.Caps.{most_tree_depth}
use Rattle.jser_verdict.specs.Passing.{Passes}
use Rattle.jser_reader.specs.Gates.{open_gate}
use Rattle.jser_value.specs.Limits.{IsContents}
use Rattle.jser_trees.specs.Answers.{tree_gate}
use Rattle.jser_trees.specs.Building.{list_in}

-- Out of its spelling, each list that obeys the format is found again, where it is no deeper than trees may be.
abbrev pub FindsList : Type 0
FindsList = (list : ContentTrees) → WellFormed list → depth_of list ≤ most_tree_depth → list_in (spelling list) ≡ Some list

-- The spelling of contents passes the open gate as trees lower it: contents that were written are not refused.
abbrev pub WrittenPasses : Type 0
WrittenPasses = (list : ContentTrees) → IsContents list → Passes (tree_gate open_gate) (spelling list) list
