use Rattle.jser_commands.proofs.ListLemmas.{says_line}
use Rattle.jser_commands.proofs.list.write_line.Goals as goal

pub returns : goal.returns
returns g c =
    says_line _ _ _ _ _ _ _ _ _ _ _ _ _ _ c.args.filter.now c.args.mark.now c.args.count.name.now c.args.count.times
    c.write_decimal.ensures c.write.ensures c.write_marked.ensures c.write-2.ensures c.write_quoted.ensures c.write-3.ensures
