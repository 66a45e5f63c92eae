use Rattle.std.specs.Prelude.{◌++◌, ◌∷◌, codes}
use Rattle.jser_printer.proofs.SaysLemmas.{says_five}
use Rattle.jser_reader.specs.ReasonNames.{reason_name}
use Rattle.jser_scan.specs.Answers.{count_words}
use Rattle.jser_scan.proofs.json.write_refusal.Goals as goal

pub returns : goal.returns
returns g c =
    says_five _ _ _ _ _ _ _ _ _ _ _ _ (λ k. count_words (codes ",\"answer\":\"no\",\"from\":") c.args.refusal.from_byte k) (λ k. count_words (codes ",\"to\":") c.args.refusal.to_byte k)
    (λ k. codes ",\"reason\":\"" ++ k) (λ k. reason_name c.args.refusal.reason ++ k) (λ k. 0x22 ∷ k)
    c.write_count.ensures c.write_count-2.ensures c.write.ensures c.write_reason.ensures c.write-2.ensures
