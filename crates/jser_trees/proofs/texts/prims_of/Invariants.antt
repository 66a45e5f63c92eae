use Rattle.std.proofs.Common.{◌≤◌, map, length}
use Rattle.jser_value.specs.View.{view_prim}
use Rattle.jser_trees.proofs.Loops.{AwaitsPrims}
use Rattle.jser_trees.proofs.texts.prims_of.Given as goal

abbrev pub invariant-codes : goal.invariant-codes
invariant-codes l = AwaitsPrims l.codes l.code-index l.fn.cursor l.cursor (map view_prim l.prims.items) × (length l.cursor ≤ length l.fn.cursor)
