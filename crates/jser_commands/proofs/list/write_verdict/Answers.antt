use Rattle.jser_commands.proofs.ListLemmas.{says_allowed, says_rejected}
use Rattle.jser_commands.proofs.list.write_verdict.Goals as goal

pub returns-in-Allowed : goal.returns-in-Allowed
returns-in-Allowed g c = says_allowed _ _ _ _ _ _ c.args.verdict c.in-Allowed.index c.in-Allowed.is c.write.ensures c.write_decimal.ensures

pub returns-in-Rejected : goal.returns-in-Rejected
returns-in-Rejected g c =
    says_rejected _ _ _ _ _ _ c.args.verdict c.in-Rejected.index c.in-Rejected.is c.write-in-Rejected.ensures c.write_decimal-in-Rejected.ensures
