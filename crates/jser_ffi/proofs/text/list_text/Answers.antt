use Rattle.jser_ffi.proofs.TextLemmas.{lists_under}
use Rattle.jser_ffi.proofs.text.list_text.Goals as goal

pub returns-in-Ok-clause-listed : goal.returns-in-Ok-clause-listed
returns-in-Ok-clause-listed c =
    lists_under c.args.text.now c.args.modules.now c.args.bytes.now _ _ c.args.most c.in-Ok.filter _ c.in-Ok.ensures.pieces c.in-Ok.ensures.table c.list_under.ensures.listed
