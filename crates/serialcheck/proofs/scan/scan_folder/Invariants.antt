use Rattle.std.proofs.Common.{◌≡◌}
use Rattle.serialcheck.proofs.scan.scan_folder.Given as goal

abbrev pub invariant-paths : goal.invariant-paths
invariant-paths g l = g.W.Sink.has_failed l.output ≡ g.W.Sink.has_failed l.fn.output
