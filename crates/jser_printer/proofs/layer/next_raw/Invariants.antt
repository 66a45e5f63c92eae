use Rattle.std.proofs.Common.{◌≡◌, ◌-◌, drop, length}
use Rattle.jser_shown.specs.Known.{prim_fields}
use Rattle.jser_printer.specs.Layers.{view_fields}
use Rattle.jser_printer.proofs.layer.next_raw.Given as goal

abbrev pub invariant-fields : goal.invariant-fields
invariant-fields l = prim_fields (drop l.from (view_fields l.fields)) ≡ prim_fields (drop l.place (view_fields l.fields))

abbrev pub decreases-fields : goal.decreases-fields
decreases-fields l = length l.fields - l.place
