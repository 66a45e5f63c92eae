-- The check finds this with no answer too; with one, it refuses a wrong body sooner.
use Rattle.std.proofs.Common.{arith, length-append, rules}
use Rattle.std.proofs.lemmas.Grind.{common_steps}
use Rattle.jser_value.proofs.SizeLemmas.{length_annotation}
use Rattle.jser_value.proofs.size.+size.Goals as goal
use Rattle.jser_value.specs.declared.tree.Body.{the_lemmas}

pub after_contents-returns-in_err-left : goal.after_contents-returns-in_err-left
after_contents-returns-in_err-left t c = grind (arith, common_steps)

pub after_contents-loop-content-preserved : goal.after_contents-loop-content-preserved
after_contents-loop-content-preserved t c = grind (arith, common_steps)

pub after_contents-returns : goal.after_contents-returns
after_contents-returns t c = grind (arith, common_steps)

pub after_desc-returns-in_err-left-in-Plain : goal.after_desc-returns-in_err-left-in-Plain
after_desc-returns-in_err-left-in-Plain t c = search (rules, the_lemmas, length-append)

pub after_desc-returns-in_err-checked_sub-in-Plain-2 : goal.after_desc-returns-in_err-checked_sub-in-Plain-2
after_desc-returns-in_err-checked_sub-in-Plain-2 t c = search (rules, the_lemmas, length-append)

pub after_desc-returns-in_err-left-in-Plain-2 : goal.after_desc-returns-in_err-left-in-Plain-2
after_desc-returns-in_err-left-in-Plain-2 t c = search (rules, the_lemmas, length-append)

pub after_desc-returns-in_err-after_notes-in-Plain : goal.after_desc-returns-in_err-after_notes-in-Plain
after_desc-returns-in_err-after_notes-in-Plain t c = search (rules, the_lemmas, length-append)

pub after_desc-returns-in_err-left-in-Proxy : goal.after_desc-returns-in_err-left-in-Proxy
after_desc-returns-in_err-left-in-Proxy t c = search (rules, the_lemmas, length-append)

pub after_desc-returns-in_err-after_notes-in-Proxy : goal.after_desc-returns-in_err-after_notes-in-Proxy
after_desc-returns-in_err-after_notes-in-Proxy t c = search (rules, the_lemmas, length-append)

pub after_desc-returns-in_ok-after_notes-in-Plain : goal.after_desc-returns-in_ok-after_notes-in-Plain
after_desc-returns-in_ok-after_notes-in-Plain t c = search (rules, the_lemmas, length-append)

pub after_desc-returns-in_ok-after_notes-in-Proxy : goal.after_desc-returns-in_ok-after_notes-in-Proxy
after_desc-returns-in_ok-after_notes-in-Proxy t c = search (rules, the_lemmas, length-append)

pub after_notes-returns-in_err-after_contents : goal.after_notes-returns-in_err-after_contents
after_notes-returns-in_err-after_contents t c = search (rules, the_lemmas, length_annotation)

pub after_notes-returns : goal.after_notes-returns
after_notes-returns t c = search (rules, the_lemmas, length_annotation)

pub after_section-returns-in_err-left : goal.after_section-returns-in_err-left
after_section-returns-in_err-left t c = search (rules, the_lemmas, length-append)

pub after_section-returns-in_err-left-2 : goal.after_section-returns-in_err-left-2
after_section-returns-in_err-left-2 t c = search (rules, the_lemmas, length-append)

pub after_section-returns-in-None : goal.after_section-returns-in-None
after_section-returns-in-None t c = search (rules, the_lemmas, length-append)

pub after_section-returns-in-Some : goal.after_section-returns-in-Some
after_section-returns-in-Some t c = search (rules, the_lemmas, length-append)

pub after_sections-returns-in_err-left : goal.after_sections-returns-in_err-left
after_sections-returns-in_err-left t c = grind (arith, common_steps)

pub after_sections-loop-section-preserved : goal.after_sections-loop-section-preserved
after_sections-loop-section-preserved t c = grind (the_lemmas, arith, common_steps)

pub after_sections-returns : goal.after_sections-returns
after_sections-returns t c = grind (arith, common_steps)

pub after_value-returns-in_err-left-in-Array : goal.after_value-returns-in_err-left-in-Array
after_value-returns-in_err-left-in-Array t c = search (rules, the_lemmas, length-append)

pub after_value-returns-in_err-left-in-EnumConst : goal.after_value-returns-in_err-left-in-EnumConst
after_value-returns-in_err-left-in-EnumConst t c = search (rules, the_lemmas, length-append)

pub after_value-returns-in_err-left-in-Object : goal.after_value-returns-in_err-left-in-Object
after_value-returns-in_err-left-in-Object t c = search (rules, the_lemmas, length-append)

pub after_value-returns-in_ok-left-in-Array : goal.after_value-returns-in_ok-left-in-Array
after_value-returns-in_ok-left-in-Array t c = search (rules, the_lemmas, length-append)

pub after_value-returns-in_ok-left-in-EnumConst : goal.after_value-returns-in_ok-left-in-EnumConst
after_value-returns-in_ok-left-in-EnumConst t c = search (rules, the_lemmas, length-append)

pub after_value-returns-in_ok-left-in-Object : goal.after_value-returns-in_ok-left-in-Object
after_value-returns-in_ok-left-in-Object t c = search (rules, the_lemmas, length-append)

pub after_values-returns-in_err-left : goal.after_values-returns-in_err-left
after_values-returns-in_err-left t c = grind (arith, common_steps)

pub after_values-loop-value-preserved : goal.after_values-loop-value-preserved
after_values-loop-value-preserved t c = grind (arith, common_steps)

pub after_values-returns : goal.after_values-returns
after_values-returns t c = grind (arith, common_steps)
