use Rattle.std.specs.Prelude.{◌++◌, codes}
use Rattle.jser_printer.specs.Names.{view_name}
use Rattle.jser_printer.proofs.SaysLemmas.{says_three}
use Rattle.jser_explain.specs.Short.{short_name}
use Rattle.jser_explain.specs.Opened.{class_words}
use Rattle.jser_explain.proofs.opened.write_field.Goals as goal

pub returns : goal.returns
returns g c =
    says_three _ _ _ _ _ _ _ _ (λ k. codes "  in field " ++ k) (λ k. short_name c.args.name.now k) (λ k. class_words (codes " of ") (view_name c.args.class) k)
    c.write.ensures c.write_name.ensures c.write_of_class.ensures
