use Rattle.std.proofs.Common.{rules, refl}
use Rattle.jser_printer.proofs.ValueLemmas.{says_no_elements, says_element, says_all_elements, says_no_more}
use Rattle.jser_printer.proofs.words.value.write_pieces.Goals as goal

pub elements-init : goal.elements-init
elements-init g c = says_no_elements _ _ _ _ _ _ _ _ _

pub elements-preserved : goal.elements-preserved
elements-preserved g c =
    says_element _ _ _ _ _ _ _ _ _ _ _ _ _ _ _ _ _ _ c.elements.invariant c.write_raw_element.ensures (search rules) refl (search rules) (search rules)

pub returns : goal.returns
returns g c = says_all_elements _ _ _ _ _ _ _ _ _ _ _ _ _ c.elements.invariant (search rules)

pub returns-then-has_failed : goal.returns-then-has_failed
returns-then-has_failed g c = says_no_more _ _ _ _ _ _ _ _ _ _ _ _ c.elements.invariant (search rules)
