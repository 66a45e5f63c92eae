use Rattle.std.proofs.Common.{◌≤◌, map, length, false}
use Rattle.jser_trees.specs.Building.{text_in}
use Rattle.jser_trees.proofs.Loops.{AwaitsMany}
use Rattle.jser_trees.proofs.texts.some_names.Given as goal

abbrev pub invariant-names : goal.invariant-names
invariant-names l = AwaitsMany (text_in false) l.fn.count l.left l.fn.cursor l.cursor (map (λ name. name.items) l.names.items) × (length l.cursor ≤ length l.fn.cursor)

abbrev pub decreases-names : goal.decreases-names
decreases-names l = l.left
