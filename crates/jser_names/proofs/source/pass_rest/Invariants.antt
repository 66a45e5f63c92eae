use Rattle.std.proofs.Common.{◌≡◌, ◌<◌, length}
use Rattle.jser_names.specs.Sources.{Passed}
use Rattle.jser_names.proofs.source.pass_rest.Given as goal

abbrev pub invariant-reads : goal.invariant-reads
invariant-reads g l = record {
  passed : Passed l.fn.most l.left (g.R.Source.to_come l.fn.source) (g.R.Source.to_come l.source);
  failed : g.R.Source.has_failed l.source ≡ g.R.Source.has_failed l.fn.source;
  room : 0 < length l.buffer;
}

abbrev pub decreases-reads : goal.decreases-reads
decreases-reads g l = l.left
