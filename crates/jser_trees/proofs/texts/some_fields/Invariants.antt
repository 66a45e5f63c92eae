use Rattle.std.proofs.Common.{◌≡◌, ◌≤◌, ◌+◌, map, length}
use Rattle.jser_value.specs.View.{view_field}
use Rattle.jser_trees.specs.Building.{field_in}
use Rattle.jser_trees.proofs.Loops.{AwaitsMany}
use Rattle.jser_trees.proofs.texts.some_fields.Given as goal

abbrev pub invariant-fields : goal.invariant-fields
invariant-fields l = AwaitsMany field_in l.fn.count l.left l.fn.cursor l.cursor (map view_field l.fields.items) × (l.left + length l.fields.items ≡ l.fn.count) × (length l.cursor + length l.fields.items ≤ length l.fn.cursor)

abbrev pub decreases-fields : goal.decreases-fields
decreases-fields l = l.left
