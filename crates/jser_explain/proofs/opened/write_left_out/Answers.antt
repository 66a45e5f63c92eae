use Rattle.std.specs.Prelude.{◌++◌, codes}
use Rattle.std.specs.Fmt.{decimal}
use Rattle.jser_printer.proofs.SaysLemmas.{says_three}
use Rattle.jser_explain.proofs.opened.write_left_out.Goals as goal

pub returns : goal.returns
returns g c =
    says_three _ _ _ _ _ _ _ _ (λ k. codes "  .. " ++ k) (λ k. decimal c.args.count ++ k) (λ k. codes " more\n" ++ k)
    c.write.ensures c.write_decimal.ensures c.write-2.ensures
