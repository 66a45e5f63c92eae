use Rattle.uses_suggest.proofs.SourceLemmas.{source_admitted}
use Rattle.uses_suggest.proofs.source.filter_of_source.Goals as goal

pub returns-in-Ok-add_found : goal.returns-in-Ok-add_found
returns-in-Ok-add_found g c =
    source_admitted (g.R.Source.to_come c.args.source.now) c.in-Ok.found c.new-samples.result c.add_found.new.self c.filter_of.result c.admits.ensures
    c.in-Ok.ensures.accepted c.new-samples.ensures c.in-Ok-add_found.ensures.learns c.filter_of.ensures
