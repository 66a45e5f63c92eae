use Rattle.std.proofs.Common.{subst}
use Rattle.jser_suggest.specs.Answers.{LearnsFound}
use Rattle.jser_suggest.specs.Gathering.{name_list}
use Rattle.jser_suggest.proofs.KnownLemmas.{learns}
use Rattle.jser_suggest.proofs.samples.Samples.add_found.Goals as goal

pub returns-in-Ok-clause-learns : goal.returns-in-Ok-clause-learns
returns-in-Ok-clause-learns c =
    subst (λ s. LearnsFound c.args.found.now s c.raise.new.self) c.self.view_is
    (learns c.args.found.now _ c.raise.new.self (name_list c.gather.new.names) c.in-Ok.ensures.gains c.raise.ensures)
