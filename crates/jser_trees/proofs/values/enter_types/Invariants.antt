use Rattle.std.proofs.Common.{◌≡◌, ◌≤◌, ◌+◌, length, map, drop}
use Rattle.jser_grammar.specs.TableAfter.{after_fields}
use Rattle.jser_value.specs.View.{view_field}
use Rattle.jser_trees.proofs.values.enter_types.Given as goal

abbrev pub invariant-fields : goal.invariant-fields
invariant-fields l = (after_fields l.table.entries (map view_field (drop l.field-index l.fields)) ≡ after_fields l.fn.table.entries (map view_field l.fields)) × (length l.table.entries ≤ length l.fn.table.entries + l.field-index)
