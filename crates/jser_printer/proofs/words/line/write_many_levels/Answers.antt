use Rattle.std.proofs.Common.{rules, refl}
use Rattle.jser_printer.proofs.LineLemmas.{says_run}
use Rattle.jser_printer.proofs.SaysLemmas.{says_on}
use Rattle.jser_printer.proofs.words.line.write_many_levels.Goals as goal

pub runs-preserved : goal.runs-preserved
runs-preserved g c = says_run _ _ _ _ _ _ _ _ _ _ c.runs.invariant c.write_levels.ensures (search rules) refl

pub returns : goal.returns
returns g c = says_on _ _ _ _ _ _ _ _ _ c.runs.invariant c.write_levels-2.ensures
