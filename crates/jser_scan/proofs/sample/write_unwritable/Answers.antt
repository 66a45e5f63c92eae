use Rattle.std.specs.Prelude.{◌++◌, ◌∷◌, codes}
use Rattle.jser_shown.specs.Words.{quoted}
use Rattle.jser_printer.proofs.SaysLemmas.{says_four}
use Rattle.jser_scan.specs.Paths.{path_words}
use Rattle.jser_scan.proofs.sample.write_unwritable.Goals as goal

pub returns : goal.returns
returns g c =
    says_four _ _ _ _ _ _ _ _ _ _ (λ k. path_words c.args.path.now k) (λ k. codes ": no pattern can safely name " ++ k) (λ k. quoted c.args.name.now k) (λ k. 0x0A ∷ k)
    c.write_path.ensures c.write.ensures c.write_quoted.ensures c.write-2.ensures
