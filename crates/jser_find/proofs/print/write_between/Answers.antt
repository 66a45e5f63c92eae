use Rattle.std.specs.Prelude.{◌++◌}
use Rattle.jser_printer.proofs.SaysLemmas.{says_three}
use Rattle.jser_find.proofs.print.write_between.Goals as goal

pub returns : goal.returns
returns g c =
    says_three _ _ _ _ _ _ _ _ (λ k. c.args.before.now ++ k) (λ k. c.args.words.now ++ k) (λ k. c.args.after.now ++ k) c.write.ensures c.write-2.ensures
    c.write-3.ensures
