use Rattle.jser_ffi.proofs.TextLemmas.{puts_shown}
use Rattle.jser_ffi.proofs.text.put_show.Goals as goal

pub returns-in-Ok-clause-shown : goal.returns-in-Ok-clause-shown
returns-in-Ok-clause-shown c = puts_shown c.args.most c.args.index.now c.in-Ok.start _ _ _ c.in-Ok.ensures c.put_start.ensures.puts
