use Rattle.std.specs.Prelude.{◌++◌}
use Rattle.std.specs.Fmt.{decimal}
use Rattle.jser_printer.proofs.SaysLemmas.{says_both}
use Rattle.jser_scan.proofs.answer.write_count.Goals as goal

pub returns : goal.returns
returns g c = says_both _ _ _ _ _ _ (λ k. c.args.words.now ++ k) (λ k. decimal c.args.count ++ k) c.write.ensures c.write_decimal.ensures
