use Rattle.jser_anywhere.proofs.QuietLemmas.{run_within, run_has_none}
use Rattle.jser_anywhere.proofs.quiet.run_without.Goals as goal

pub returns-clause-within : goal.returns-clause-within
returns-clause-within c = run_within c.args.byte c.args.bytes.now c.args.at _ c.requires c.first_set.ensures

pub returns-clause-none : goal.returns-clause-none
returns-clause-none c = run_has_none c.args.byte c.args.bytes.now c.args.at _ c.requires c.first_set.ensures
