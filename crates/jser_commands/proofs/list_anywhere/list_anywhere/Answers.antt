use Rattle.jser_commands.proofs.HiddenLemmas.{anywhere_all, anywhere_cut}
use Rattle.jser_commands.proofs.list_anywhere.list_anywhere.Goals as goal

pub returns-in-Ok-clause-accepted : goal.returns-in-Ok-clause-accepted
returns-in-Ok-clause-accepted g c zero =
    anywhere_all c.counted.ensures _ c.args.filter.now c.in-Ok.whole _ _ c.in-Ok.ensures.accepted (c.print_whole.ensures.printed zero)

pub returns-in-Ok-clause-failed : goal.returns-in-Ok-clause-failed
returns-in-Ok-clause-failed g c three =
    anywhere_cut c.counted.ensures _ c.args.filter.now c.in-Ok.whole _ _ _ c.in-Ok.ensures.accepted (c.print_whole.ensures.failed three)
