use Rattle.jser_suggest.proofs.GatherLemmas.{inserts}
use Rattle.jser_suggest.proofs.names.insert.Goals as goal

pub returns-clause-gains : goal.returns-clause-gains
returns-clause-gains c = inserts c.args.text c.args.names.now c.insert.new.self c.in-Ok.ensures.keys
