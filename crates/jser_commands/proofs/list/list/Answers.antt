use Rattle.jser_commands.proofs.ListLemmas.{listed_all, listed_cut}
use Rattle.jser_commands.proofs.list.list.Goals as goal

pub returns-in-Ok-clause-accepted : goal.returns-in-Ok-clause-accepted
returns-in-Ok-clause-accepted g c zero =
    listed_all c.counted.ensures _ c.args.filter.now c.in-Ok.names _ _ c.in-Ok.ensures.accepted (c.print_names.ensures.printed zero)

pub returns-in-Ok-clause-failed : goal.returns-in-Ok-clause-failed
returns-in-Ok-clause-failed g c three =
    listed_cut c.counted.ensures _ c.args.filter.now c.in-Ok.names _ _ _ c.in-Ok.ensures.accepted (c.print_names.ensures.failed three)
