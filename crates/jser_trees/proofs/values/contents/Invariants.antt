use Rattle.jser_trees.specs.Building.{value_in}
use Rattle.jser_value.specs.View.{view_contents}
use Rattle.std.proofs.Common.{[]}
use Rattle.jser_value.specs.Rooms.{Spends}
use Rattle.jser_trees.proofs.TopLoop.{AwaitsTop}
use Rattle.jser_trees.proofs.values.contents.Given as goal

abbrev pub invariant-contents : goal.invariant-contents
invariant-contents l = AwaitsTop (value_in 2000) l.table.entries l.left l.fn.cursor l.cursor (view_contents l.list.items) × Spends [] l.fn.cursor l.table.entries l.cursor

abbrev pub decreases-contents : goal.decreases-contents
decreases-contents l = l.left
