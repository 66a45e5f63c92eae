use Rattle.std.specs.Prelude.{◌++◌, codes}
use Rattle.jser_printer.proofs.SaysLemmas.{says_four}
use Rattle.jser_scan.specs.Answers.{count_words}
use Rattle.jser_records.specs.Words.{key_member, members}
use Rattle.jser_records.proofs.words.write_object.Goals as goal

pub returns : goal.returns
returns g c =
    says_four _ _ _ _ _ _ _ _ _ _ (λ k. count_words (codes "{\"record\":") c.args.number k) (λ k. key_member c.args.key.now c.args.signs.now k)
    (λ k. members c.args.answer.now k) (λ k. codes "}\n" ++ k)
    c.write_count.ensures c.write_key.ensures c.write_answer_members.ensures c.write.ensures
