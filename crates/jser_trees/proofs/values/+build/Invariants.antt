use Rattle.std.proofs.Common.{◌+◌, ◌*◌}
use Rattle.jser_trees.specs.Building.{value_in}
use Rattle.jser_table.specs.Entries.{chain_at}
use Rattle.jser_value.specs.View.{view_values, view_sections, view_contents}
use Rattle.jser_trees.proofs.ValuesLoop.{AwaitsValues}
use Rattle.jser_trees.proofs.NotesLoop.{AwaitsNotes}
use Rattle.jser_trees.proofs.SectionsLoop.{AwaitsSections}
use Rattle.jser_value.specs.Rooms.{Spends}
use Rattle.jser_trees.proofs.values.+build.Given as goal

abbrev pub decreases-level : goal.decreases-level
decreases-level l = 10 * l.steps + 8

abbrev pub decreases-tagged : goal.decreases-tagged
decreases-tagged l = 10 * l.steps + 7

abbrev pub decreases-value : goal.decreases-value
decreases-value l = 10 * l.steps

abbrev pub decreases-desc : goal.decreases-desc
decreases-desc l = 10 * l.steps

abbrev pub decreases-next_value : goal.decreases-next_value
decreases-next_value l = 10 * l.steps + 1

abbrev pub decreases-content : goal.decreases-content
decreases-content l = 10 * l.steps + 1

abbrev pub decreases-class : goal.decreases-class
decreases-class l = 10 * l.steps + 1

abbrev pub decreases-next_class : goal.decreases-next_class
decreases-next_class l = 10 * l.steps + 2

abbrev pub decreases-superclass : goal.decreases-superclass
decreases-superclass l = 10 * l.steps + 2

abbrev pub decreases-values : goal.decreases-values
decreases-values l = 10 * l.steps + 2

abbrev pub decreases-notes : goal.decreases-notes
decreases-notes l = 10 * l.steps + 2

abbrev pub decreases-section : goal.decreases-section
decreases-section l = 10 * l.steps + 3

abbrev pub decreases-sections : goal.decreases-sections
decreases-sections l = 10 * l.steps + 4

abbrev pub decreases-external_section : goal.decreases-external_section
decreases-external_section l = 10 * l.steps + 4

abbrev pub decreases-data : goal.decreases-data
decreases-data l = 10 * l.steps + 5

abbrev pub decreases-body : goal.decreases-body
decreases-body l = 10 * l.steps + 3

abbrev pub decreases-class_object : goal.decreases-class_object
decreases-class_object l = 10 * l.steps + 3

abbrev pub decreases-array : goal.decreases-array
decreases-array l = 10 * l.steps + 4

abbrev pub decreases-enum_constant : goal.decreases-enum_constant
decreases-enum_constant l = 10 * l.steps + 3

abbrev pub decreases-object : goal.decreases-object
decreases-object l = 10 * l.steps + 6

abbrev pub decreases-plain : goal.decreases-plain
decreases-plain l = 10 * l.steps + 4

abbrev pub decreases-proxy : goal.decreases-proxy
decreases-proxy l = 10 * l.steps + 4

abbrev pub decreases-desc_level : goal.decreases-desc_level
decreases-desc_level l = 10 * l.steps + 5

abbrev pub invariant-values-values : goal.invariant-values-values
invariant-values-values l = AwaitsValues (value_in l.steps) l.fn.table.entries l.table.entries l.fn.count l.left l.fn.cursor l.cursor (view_values l.values.items)
    × Spends l.fn.table.entries l.fn.cursor l.table.entries l.cursor

abbrev pub decreases-values-values : goal.decreases-values-values
decreases-values-values l = l.left

abbrev pub invariant-notes-notes : goal.invariant-notes-notes
invariant-notes-notes l = AwaitsNotes (value_in l.steps) l.fn.table.entries l.table.entries l.left l.fn.cursor l.cursor (view_contents l.notes.items)
    × Spends l.fn.table.entries l.fn.cursor l.table.entries l.cursor

abbrev pub decreases-notes-notes : goal.decreases-notes-notes
decreases-notes-notes l = l.left

abbrev pub invariant-sections-sections : goal.invariant-sections-sections
invariant-sections-sections l =
    AwaitsSections (value_in l.steps) l.fn.table.entries l.table.entries l.number (chain_at l.fn.table.entries l.number) l.index l.fn.cursor l.cursor (view_sections l.sections.items)
    × Spends l.fn.table.entries l.fn.cursor l.table.entries l.cursor
