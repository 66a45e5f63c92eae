use Rattle.std.specs.Prelude.{◌++◌, ◌∷◌, codes}
use Rattle.jser_printer.proofs.SaysLemmas.{says_three}
use Rattle.jser_scan.specs.Paths.{told_words}
use Rattle.jser_scan.proofs.unopened.write_unopened.Goals as goal

pub returns : goal.returns
returns g c =
    says_three _ _ _ _ _ _ _ _ (λ k. codes "cannot open " ++ k) (λ k. told_words c.args.path.now k) (λ k. 0x0A ∷ k)
    c.write.ensures c.write_told.ensures c.write-2.ensures
