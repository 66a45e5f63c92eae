use Rattle.jser_printer.specs.Names.{view_name}
use Rattle.jser_printer.proofs.SaysLemmas.{says_three}
use Rattle.jser_explain.specs.Heads.{class_line, token_line, first_bytes, sentence_line}
use Rattle.jser_explain.proofs.why.write_head.Goals as goal

pub returns : goal.returns
returns g c =
    says_three _ _ _ _ _ _ _ _ (λ k. sentence_line c.args.sentence.now k) (λ k. token_line c.args.spot (first_bytes c.args.bytes.now c.args.spot) k)
    (λ k. class_line (view_name c.args.class) k) c.write_sentence.ensures c.write_token.ensures c.write_class.ensures
