use Rattle.std.proofs.Common.{rules}
use Rattle.jser_reader.proofs.HeaderLemmas.{one_more_right}
use Rattle.jser_reader.proofs.machine.take.header.right_bytes.Goals as goal

pub bytes-preserved : goal.bytes-preserved
bytes-preserved c = one_more_right c.args.place c.args.piece.now c.bytes.count c.bytes.invariant c.bytes-test.true c.if-place-count-lt4.true (search rules)
