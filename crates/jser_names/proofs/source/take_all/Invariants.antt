use Rattle.std.proofs.Common.{◌≡◌, length}
use Rattle.jser_names.specs.Sources.{Reads}
use Rattle.jser_names.proofs.source.take_all.Given as goal

-- what was read came off the source and was taken, and no read has failed
abbrev pub invariant-reads : goal.invariant-reads
invariant-reads g l = record {
  reads : Reads g.T.Taker.took (g.R.Source.to_come l.fn.source) (g.R.Source.to_come l.source) l.left l.taker;
  failed : g.R.Source.has_failed l.source ≡ g.R.Source.has_failed l.fn.source;
  room : length l.buffer ≡ length l.fn.buffer;
}

abbrev pub decreases-reads : goal.decreases-reads
decreases-reads g l = l.left
