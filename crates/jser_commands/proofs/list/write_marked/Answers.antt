use Rattle.jser_commands.proofs.ListLemmas.{says_marked}
use Rattle.jser_commands.proofs.list.write_marked.Goals as goal

pub returns : goal.returns
returns g c =
    says_marked _ _ _ _ _ _ c.args.filter.now c.args.mark.now c.args.name.now c.verdict_on.result c.verdict_on.ensures c.write.ensures c.write_verdict.ensures
