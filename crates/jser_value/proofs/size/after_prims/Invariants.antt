use Rattle.std.proofs.Common.{◌≡◌, ◌+◌, length, map, drop}
use Rattle.jser_grammar.specs.Spelling.{prims_spelling}
use Rattle.jser_value.specs.View.{view_prim}
use Rattle.jser_value.proofs.size.after_prims.Given as goal

abbrev pub invariant-loop-prim : goal.invariant-loop-prim
invariant-loop-prim l = length (prims_spelling (map view_prim l.prims)) + l.left ≡ l.room + length (prims_spelling (map view_prim (drop l.prim-index l.prims)))
