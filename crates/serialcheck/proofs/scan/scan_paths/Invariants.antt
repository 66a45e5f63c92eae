use Rattle.std.proofs.Common.{◌≡◌}
use Rattle.serialcheck.proofs.scan.scan_paths.Given as goal

abbrev pub invariant-loop-path : goal.invariant-loop-path
invariant-loop-path g l = g.W.Sink.has_failed l.output ≡ g.W.Sink.has_failed l.fn.output
