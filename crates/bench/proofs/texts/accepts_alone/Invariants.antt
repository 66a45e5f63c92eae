use Rattle.std.proofs.Common.{◌≡◌, ◌+◌, length}
use Rattle.bench.proofs.texts.accepts_alone.Given as goal

abbrev pub invariant-loop-byte : goal.invariant-loop-byte
invariant-loop-byte l = l.scan.left + l.byte-index ≡ length l.text
