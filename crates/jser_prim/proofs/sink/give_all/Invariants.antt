use Rattle.std.proofs.Common.{◌≡◌, ◌≤◌, ◌-◌, length, take}
use Rattle.std.specs.Io.KnownBytes.{Appends}
use Rattle.jser_prim.proofs.sink.give_all.Given as goal

abbrev pub invariant-gives : goal.invariant-gives
invariant-gives g l = record {
  within : l.given ≤ length l.bytes;
  went : Appends (g.W.Sink.gone_out l.fn.sink) (g.W.Sink.gone_out l.sink) (take l.given l.bytes);
  kept : g.W.Sink.has_failed l.sink ≡ g.W.Sink.has_failed l.fn.sink;
}

abbrev pub decreases-gives : goal.decreases-gives
decreases-gives g l = length l.bytes - l.given
