use Rattle.std.proofs.Common.{◌≤◌, map, length}
use Rattle.jser_grammar.specs.Codes.{prim_code_of}
use Rattle.jser_value.specs.View.{view_prim}
use Rattle.jser_trees.specs.Building.{prim_at}
use Rattle.jser_trees.proofs.Loops.{AwaitsMany}
use Rattle.jser_trees.proofs.texts.prims.Given as goal

abbrev pub invariant-prims : goal.invariant-prims
invariant-prims l = AwaitsMany (prim_at (prim_code_of l.code)) l.fn.count l.left l.fn.cursor l.cursor (map view_prim l.prims.items) × (length l.cursor ≤ length l.fn.cursor)

abbrev pub decreases-prims : goal.decreases-prims
decreases-prims l = l.left
