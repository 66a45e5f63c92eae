use Rattle.std.proofs.Common.{rules}
use Rattle.jser_reader.proofs.TagLemmas.{resets}
use Rattle.jser_reader.proofs.machine.Machine.reset.Goals as goal

pub returns-clause-reset : goal.returns-clause-reset
returns-clause-reset c = λ none. resets c.args.self.now _ _ c.done.ensures.next none (search rules) (search rules) (search rules) (search rules) (search rules)
