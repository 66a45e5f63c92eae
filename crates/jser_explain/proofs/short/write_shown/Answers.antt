use Rattle.std.specs.Prelude.{◌∷◌, ◌++◌}
use Rattle.jser_printer.proofs.SaysLemmas.{says_four}
use Rattle.jser_explain.specs.Short.{cut_words}
use Rattle.jser_explain.proofs.short.write_shown.Goals as goal

pub returns : goal.returns
returns g c =
    says_four _ _ _ _ _ _ _ _ _ _ (λ k. 0x22 ∷ k) (λ k. c.args.letters.now ++ k) (λ k. 0x22 ∷ k) (λ k. cut_words c.args.is_cut k)
    c.write.ensures c.write-2.ensures c.write-3.ensures c.write_cut.ensures
