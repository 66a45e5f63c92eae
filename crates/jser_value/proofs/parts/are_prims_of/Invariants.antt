use Rattle.std.proofs.Common.{◌≡◌, map, drop}
use Rattle.std.specs.List.{list_all}
use Rattle.jser_value.specs.PartTests.{is_prim_of}
use Rattle.jser_value.specs.View.{view_prim}
use Rattle.jser_value.proofs.parts.are_prims_of.Given as goal

abbrev pub invariant-loop-prim : goal.invariant-loop-prim
invariant-loop-prim l =
    list_all (is_prim_of l.code) (map view_prim (drop l.prim-index l.prims)) ≡ list_all (is_prim_of l.code) (map view_prim l.prims)
