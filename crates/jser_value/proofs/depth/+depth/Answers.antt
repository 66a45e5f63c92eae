-- The check finds this with no answer too; with one, it refuses a wrong body sooner.
use Rattle.std.proofs.Common.{arith}
use Rattle.std.proofs.lemmas.Grind.{common_steps}
use Rattle.jser_value.specs.declared.tree.Body.{the_lemmas}
use Rattle.jser_value.proofs.depth.+depth.Goals as goal

pub contents_within-returns-then-not-content_within : goal.contents_within-returns-then-not-content_within
contents_within-returns-then-not-content_within t c = grind (arith, common_steps)

pub contents_within-loop-content-preserved : goal.contents_within-loop-content-preserved
contents_within-loop-content-preserved t c = grind (arith, common_steps)

pub contents_within-returns : goal.contents_within-returns
contents_within-returns t c = grind (arith, common_steps)

pub sections_within-returns-then-not-section_within : goal.sections_within-returns-then-not-section_within
sections_within-returns-then-not-section_within t c = grind (the_lemmas, arith, common_steps)

pub sections_within-loop-section-preserved : goal.sections_within-loop-section-preserved
sections_within-loop-section-preserved t c = grind (the_lemmas, arith, common_steps)

pub sections_within-returns : goal.sections_within-returns
sections_within-returns t c = grind (arith, common_steps)

pub values_within-returns-then-not-value_within : goal.values_within-returns-then-not-value_within
values_within-returns-then-not-value_within t c = grind (arith, common_steps)

pub values_within-loop-value-preserved : goal.values_within-loop-value-preserved
values_within-loop-value-preserved t c = grind (arith, common_steps)

pub values_within-returns : goal.values_within-returns
values_within-returns t c = grind (arith, common_steps)
