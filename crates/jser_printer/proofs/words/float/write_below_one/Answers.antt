use Rattle.std.proofs.Common.{◌++◌, ◌∙◌, List, ℕ, ap, sym, codes}
use Rattle.jser_printer.proofs.FloatLemmas.{says_after, says_as}
use Rattle.jser_shown.specs.Floats.{trimmed}
use Rattle.jser_printer.proofs.words.float.write_below_one.Goals as goal

pub returns : goal.returns
returns g c =
    says_as _ _ _ _ _ _
    (ap (λ (z : List ℕ). codes "0." ++ z ++ trimmed c.args.digits.now) (sym c.zeros.ensures) ∙ ap (λ (t : List ℕ). codes "0." ++ c.zeros.result.now ++ t) (sym c.without_zeros.ensures))
    (says_after _ _ _ _ _ _ _ _ (codes "0.") c.zeros.result.now c.without_zeros.result.now c.write.ensures c.write-2.ensures c.write-3.ensures)
