use Rattle.std.proofs.Common.{◌≡◌, ◌+◌, length, drop}
use Rattle.jser_grammar.specs.Spelling.{values_spelling, sections_spelling, contents_spelling}
use Rattle.jser_value.specs.View.{view_values, view_sections, view_contents}
use Rattle.jser_value.proofs.size.+size.Given as goal

abbrev pub invariant-after_contents-loop-content : goal.invariant-after_contents-loop-content
invariant-after_contents-loop-content l =
    length (contents_spelling (view_contents l.contents)) + l.left ≡ l.room + length (contents_spelling (view_contents (drop l.content-index l.contents)))

abbrev pub invariant-after_sections-loop-section : goal.invariant-after_sections-loop-section
invariant-after_sections-loop-section l =
    length (sections_spelling (view_sections l.sections.items)) + l.left ≡ l.room + length (sections_spelling (view_sections (drop l.section-index l.section-items)))

abbrev pub invariant-after_values-loop-value : goal.invariant-after_values-loop-value
invariant-after_values-loop-value l =
    length (values_spelling (view_values l.values)) + l.left ≡ l.room + length (values_spelling (view_values (drop l.value-index l.values)))
