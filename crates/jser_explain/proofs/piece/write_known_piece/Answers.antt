use Rattle.std.specs.Prelude.{◌++◌, codes}
use Rattle.std.specs.Fmt.{decimal}
use Rattle.jser_scan.specs.Paths.{path_words}
use Rattle.jser_printer.proofs.SaysLemmas.{says_five}
use Rattle.jser_explain.proofs.piece.write_known_piece.Goals as goal

pub returns : goal.returns
returns g c =
    says_five _ _ _ _ _ _ _ _ _ _ _ _ (λ k. codes "  piece " ++ k) (λ k. decimal c.args.piece.now.index ++ k) (λ k. codes ": " ++ k) (λ k. path_words c.args.piece.now.text k)
    (λ k. codes "\n" ++ k) c.write.ensures c.write_decimal.ensures c.write-2.ensures c.write_path.ensures c.write-3.ensures
