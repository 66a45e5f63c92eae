use Rattle.std.proofs.Common.{drop, length}
use Rattle.jser_table.specs.Entries.{chain_at}
use Rattle.jser_grammar.specs.TableAfter.{after_values, after_sections, after_contents}
use Rattle.jser_value.specs.Tests.{obeys_values, obeys_sections, obeys_notes}
use Rattle.jser_value.specs.View.{view_values, view_sections, view_contents}
use Rattle.jser_value.proofs.CheckLemmas.{Awaits, AwaitsSections}
use Rattle.jser_grammar.specs.Spelling.{values_spelling, sections_spelling, annotation_spelling}
use Rattle.jser_value.specs.Rooms.{Spends}
use Rattle.jser_value.proofs.check.values.+check.Given as goal

abbrev pub invariant-check_notes-notes : goal.invariant-check_notes-notes
invariant-check_notes-notes l =
    Awaits (obeys_notes l.table.entries (view_contents (drop l.content-index l.notes))) (obeys_notes l.fn.table.entries (view_contents l.notes))
    (after_contents l.table.entries (view_contents (drop l.content-index l.notes))) (after_contents l.fn.table.entries (view_contents l.notes))
    × Spends l.fn.table.entries (annotation_spelling (view_contents l.notes)) l.table.entries (annotation_spelling (view_contents (drop l.content-index l.notes)))

abbrev pub invariant-check_values-values : goal.invariant-check_values-values
invariant-check_values-values l =
    Awaits (obeys_values l.table.entries (view_values (drop l.value-index l.values))) (obeys_values l.fn.table.entries (view_values l.values))
    (after_values l.table.entries (view_values (drop l.value-index l.values))) (after_values l.fn.table.entries (view_values l.values))
    × Spends l.fn.table.entries (values_spelling (view_values l.values)) l.table.entries (values_spelling (view_values (drop l.value-index l.values)))

abbrev pub invariant-check_sections-sections : goal.invariant-check_sections-sections
invariant-check_sections-sections l =
    AwaitsSections l.table.entries l.number (chain_at l.fn.table.entries l.number) (length l.sections.items)
    (obeys_sections l.table.entries (view_sections (drop l.index l.sections.items)) (drop l.index (chain_at l.fn.table.entries l.number)))
    (obeys_sections l.fn.table.entries (view_sections l.sections.items) (chain_at l.fn.table.entries l.number))
    (after_sections l.table.entries (view_sections (drop l.index l.sections.items))) (after_sections l.fn.table.entries (view_sections l.sections.items))
    × Spends l.fn.table.entries (sections_spelling (view_sections l.sections.items)) l.table.entries (sections_spelling (view_sections (drop l.index l.sections.items)))
