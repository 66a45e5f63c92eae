use Rattle.std.specs.Prelude.{◌++◌, codes}
use Rattle.std.specs.Fmt.{decimal}
use Rattle.jser_printer.proofs.SaysLemmas.{says_three}
use Rattle.jser_explain.proofs.opened.write_element.Goals as goal

pub returns : goal.returns
returns g c =
    says_three _ _ _ _ _ _ _ _ (λ k. codes "  in element " ++ k) (λ k. decimal c.args.index ++ k) (λ k. codes "\n" ++ k)
    c.write.ensures c.write_decimal.ensures c.write-2.ensures
