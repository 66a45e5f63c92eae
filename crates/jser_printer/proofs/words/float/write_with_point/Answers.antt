use Rattle.std.proofs.Common.{◌∙◌, ap, take, drop}
use Rattle.jser_printer.proofs.FloatLemmas.{cut_at, says_as, says_between}
use Rattle.jser_printer.proofs.words.float.write_with_point.Goals as goal

pub returns : goal.returns
returns g c =
    let mid = c.min.ensures in
    let front = c.split_at.ensures.front ∙ ap (λ n. take n c.args.digits.now) mid in
    let behind = c.split_at.ensures.back ∙ ap (λ n. drop n c.args.digits.now) mid in
    says_as _ _ _ _ _ _ (cut_at c.args.whole c.args.digits.now _ _ front behind)
    (says_between _ _ _ _ _ _ _ _ _ _ 0x2E c.write.ensures c.write-2.ensures c.write_fraction.ensures)
