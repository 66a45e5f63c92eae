use Rattle.std.specs.Prelude.{◌++◌, codes}
use Rattle.hex.specs.Hex.{encode_lower}
use Rattle.jser_printer.proofs.SaysLemmas.{says_three}
use Rattle.jser_explain.proofs.token.write_digits.Goals as goal

pub returns : goal.returns
returns g c =
    says_three _ _ _ _ _ _ _ _ (λ k. codes ": " ++ k) (λ k. encode_lower c.args.bytes.now ++ k) (λ k. codes "\n" ++ k)
    c.write.ensures c.write_hex.ensures c.write-2.ensures
