use Rattle.std.proofs.Common.{drop}
use Rattle.jser_grammar.specs.Counts.{depth_in_values, depth_in_sections, depth_in_contents}
use Rattle.jser_value.specs.View.{view_values, view_sections, view_contents}
use Rattle.jser_value.proofs.DepthLemmas.{IsLeft}
use Rattle.jser_value.proofs.depth.+depth.Given as goal

abbrev pub invariant-contents_within-loop-content : goal.invariant-contents_within-loop-content
invariant-contents_within-loop-content l =
    IsLeft l.room (depth_in_contents (view_contents (drop l.content-index l.contents))) (depth_in_contents (view_contents l.contents))

abbrev pub invariant-sections_within-loop-section : goal.invariant-sections_within-loop-section
invariant-sections_within-loop-section l =
    IsLeft l.room (depth_in_sections (view_sections (drop l.section-index l.section-items))) (depth_in_sections (view_sections l.sections.items))

abbrev pub invariant-values_within-loop-value : goal.invariant-values_within-loop-value
invariant-values_within-loop-value l =
    IsLeft l.room (depth_in_values (view_values (drop l.value-index l.values))) (depth_in_values (view_values l.values))
