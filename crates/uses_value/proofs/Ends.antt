-- Where a value ends.
use Rattle.std.proofs.Common.{◌≡◌, ◌∙◌, sym, ap, ℕ, List, [], ◌++◌}
use Rattle.std.proofs.lemmas.List.{append_cancel_left, append-nil}
use Rattle.jser_grammar.specs.Trees.{ValueTree}
use Rattle.jser_grammar.specs.Spelling.{value_spelling}
use Rattle.jser_grammar.specs.TableAfter.{Entries}
use Rattle.jser_grammar.specs.WellFormed.{WellFormedValue}
use Rattle.jser_reading.specs.ByteLaws.{NoPrefix}

-- of two values that obey the format after the same ones, one that begins the other is all of it
pub one_end : NoPrefix → (table : Entries) (value other : ValueTree) (rest : List ℕ) → WellFormedValue table value → WellFormedValue table other
    → value_spelling value ++ rest ≡ value_spelling other → rest ≡ []
one_end law table value other rest right right' is =
    append_cancel_left (value_spelling value) rest []
    (is ∙ ap value_spelling (sym (law table value other rest right right' is)) ∙ sym (append-nil (value_spelling value)))
