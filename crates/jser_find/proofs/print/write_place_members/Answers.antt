use Rattle.std.specs.Prelude.{codes}
use Rattle.jser_printer.proofs.SaysLemmas.{says_three}
use Rattle.jser_scan.specs.Answers.{count_words}
use Rattle.jser_find.specs.Lines.{form_words}
use Rattle.jser_find.proofs.print.write_place_members.Goals as goal

pub returns : goal.returns
returns g c =
    says_three _ _ _ _ _ _ _ _ (λ k. count_words (codes ",\"start\":") c.args.place.from k) (λ k. count_words (codes ",\"end\":") c.args.place.to k)
    (λ k. form_words (codes ",\"form\":\"") c.args.place.form (codes "\"") k) c.write_count.ensures c.write_count-2.ensures c.write_form.ensures
