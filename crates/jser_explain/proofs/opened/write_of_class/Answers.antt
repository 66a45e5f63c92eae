use Rattle.std.specs.Prelude.{◌++◌, codes}
use Rattle.jser_printer.specs.Names.{view_name}
use Rattle.jser_printer.proofs.SaysLemmas.{says_three}
use Rattle.jser_explain.specs.Opened.{name_words}
use Rattle.jser_explain.proofs.opened.write_of_class.Goals as goal

pub returns : goal.returns
returns g c =
    says_three _ _ _ _ _ _ _ _ (λ k. c.args.words.now ++ k) (λ k. name_words (view_name c.args.class) k) (λ k. codes "\n" ++ k)
    c.write.ensures c.write_class_name.ensures c.write-2.ensures
