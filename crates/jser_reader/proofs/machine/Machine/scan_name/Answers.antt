use Rattle.std.proofs.Common.{refl}
use Rattle.std.proofs.lemmas.List.{take_more}
use Rattle.jser_reader.proofs.TextScanLemmas.{one_more, stops_at}
use Rattle.jser_reader.proofs.machine.Machine.scan_name.Goals as goal

pub returns-in-Stopped : goal.returns-in-Stopped
returns-in-Stopped c =
    stops_at c.args.part.now c.bytes.index _ _ _ _ _ _ c.bytes.invariant c.scan_byte.ensures c.in-Stopped.is refl c.bytes-test.true
    (take_more c.args.part.now c.bytes.index 0 c.bytes-test.true)

pub bytes-preserved : goal.bytes-preserved
bytes-preserved c =
    one_more c.args.part.now c.bytes.index _ _ _ _ _ c.bytes.invariant c.scan_byte.ensures c.in-On.is
    (take_more c.args.part.now c.bytes.index 0 c.bytes-test.true)
