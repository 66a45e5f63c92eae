use Rattle.std.proofs.Common.{arith}
use Rattle.jser_anywhere.proofs.NameLemmas.{ended}
use Rattle.jser_anywhere.proofs.name.read_text.Goals as goal

pub returns : goal.returns
returns c = ended _ _ _ _ _ c.bytes.invariant (omega (arith, c.bytes-test.false, c.bytes.auto.byte-index-end)) c.is_first.ensures

pub push-requires : goal.push-requires
push-requires c = omega (arith, c.bytes.invariant.room, c.bytes-test.true)
