use Rattle.std.specs.Prelude.{◌++◌, codes}
use Rattle.jser_printer.proofs.SaysLemmas.{says_three}
use Rattle.jser_explain.specs.Short.{short_name}
use Rattle.jser_explain.proofs.opened.write_own_writer.Goals as goal

pub returns : goal.returns
returns g c =
    says_three _ _ _ _ _ _ _ _ (λ k. codes "  " ++ k) (λ k. short_name c.args.name.now k)
    (λ k. codes " has a writeObject of its own: if it does not write its fields first, this stream cannot be read without that class\n" ++ k)
    c.write.ensures c.write_name.ensures c.write-2.ensures
