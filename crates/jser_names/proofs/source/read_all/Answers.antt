use Rattle.jser_names.proofs.ReadOnLemmas.{reads_on}
use Rattle.jser_names.proofs.source.read_all.Goals as goal

pub returns-clause-read : goal.returns-clause-read
returns-clause-read g c =
    reads_on (g.R.Source.to_come c.args.source.now) (g.R.Source.to_come c.take_all.new.source) (g.R.Source.to_come c.told.new.source) c.in-Err.halt c.told.result _ _
    c.told.ensures.is c.in-Err.ensures.read c.told.ensures.read
