use Rattle.std.proofs.Common.{ap, ◌∙◌}
use Rattle.jser_names.specs.Counts.{number_in}
use Rattle.jser_names.proofs.CountLemmas.{numbered}
use Rattle.jser_names.proofs.counts.NameCounts.look_up.Goals as goal

pub returns : goal.returns
returns c = c.get_index_of.ensures.index ∙ numbered c.args.name.now c.self.inside.names.entries ∙ ap (number_in c.args.name.now) c.self.view_is
