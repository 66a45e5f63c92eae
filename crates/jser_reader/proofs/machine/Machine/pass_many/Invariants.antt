use Rattle.std.proofs.Common.{◌≡◌, ◌-◌, length}
use Rattle.jser_reader.proofs.ManyPasses.{GoesSo}
use Rattle.jser_reader.proofs.machine.Machine.pass_many.Given as goal

abbrev pub invariant-values : goal.invariant-values
invariant-values l = record {
  so : GoesSo l.piece l.fn.self l.fn.tally l.self l.counts;
  tally : l.tally ≡ l.fn.tally;
}

abbrev pub decreases-values : goal.decreases-values
decreases-values l = length l.piece - l.counts.used
