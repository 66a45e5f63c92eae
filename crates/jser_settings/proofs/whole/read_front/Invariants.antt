use Rattle.std.proofs.Common.{◌≡◌, ◌<◌, ◌≤◌, ◌+◌, ◌-◌, vec_len}
use Rattle.std.specs.Io.KnownBytes.{Consumes}
use Rattle.jser_settings.proofs.whole.read_front.Given as goal

-- what was read came off the source
abbrev pub invariant-reads : goal.invariant-reads
invariant-reads g l = record {
  unbroken : g.R.Source.has_failed l.source ≡ g.R.Source.has_failed l.fn.source;
  read : Consumes (g.R.Source.to_come l.fn.source) (g.R.Source.to_come l.source) l.front.items;
  within : vec_len l.front ≤ l.most + 1;
  room : 0 < vec_len l.buffer;
}

abbrev pub decreases-reads : goal.decreases-reads
decreases-reads g l = l.most + 1 - vec_len l.front
