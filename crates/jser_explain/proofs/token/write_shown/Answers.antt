use Rattle.std.specs.Prelude.{◌++◌, codes}
use Rattle.std.specs.Fmt.{decimal}
use Rattle.jser_printer.proofs.SaysLemmas.{says_five}
use Rattle.jser_explain.specs.Heads.{hex_end}
use Rattle.jser_explain.proofs.token.write_shown.Goals as goal

pub returns : goal.returns
returns g c =
    says_five _ _ _ _ _ _ _ _ _ _ _ _ (λ k. codes "  bytes " ++ k) (λ k. decimal c.args.spot.from ++ k) (λ k. codes " to " ++ k) (λ k. decimal c.args.spot.to ++ k)
    (λ k. hex_end c.args.shown.now k) c.write.ensures c.write_decimal.ensures c.write-2.ensures c.write_decimal-2.ensures c.write_hex_end.ensures
