use Rattle.std.specs.Prelude.{◌++◌, codes}
use Rattle.jser_explain.specs.Short.{short_name}
use Rattle.jser_printer.proofs.SaysLemmas.{says_three}
use Rattle.jser_explain.proofs.token.write_known_class.Goals as goal

pub returns : goal.returns
returns g c =
    says_three _ _ _ _ _ _ _ _ (λ k. codes "  class " ++ k) (λ k. short_name c.args.units.now k) (λ k. codes "\n" ++ k)
    c.write.ensures c.write_class_name.ensures c.write-2.ensures
