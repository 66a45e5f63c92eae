use Rattle.std.specs.Prelude.{◌++◌, codes}
use Rattle.jser_printer.proofs.SaysLemmas.{says_three}
use Rattle.jser_explain.proofs.why.write_sentence.Goals as goal

pub returns : goal.returns
returns g c =
    says_three _ _ _ _ _ _ _ _ (λ k. codes "  " ++ k) (λ k. c.args.sentence.now ++ k) (λ k. codes "\n" ++ k)
    c.write.ensures c.write-2.ensures c.write-3.ensures
