use Rattle.std.proofs.Common.{◌≡◌, map, drop}
use Rattle.jser_value.specs.PartTests.{obeys_prims}
use Rattle.jser_value.specs.View.{view_prim}
use Rattle.jser_value.proofs.parts.are_prims.Given as goal

abbrev pub invariant-loop-code : goal.invariant-loop-code
invariant-loop-code l = obeys_prims (drop l.code-index l.codes) (map view_prim l.rest) ≡ obeys_prims l.codes (map view_prim l.prims)
