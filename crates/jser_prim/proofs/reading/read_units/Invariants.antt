use Rattle.std.proofs.Common.{length, take}
use Rattle.jser_prim.specs.Texts.{HasAccepted}
use Rattle.jser_prim.proofs.reading.read_units.Given as goal

abbrev pub invariant-bytes : goal.invariant-bytes
invariant-bytes l = HasAccepted (length l.fn.bytes) (take l.byte-index l.fn.bytes) l.units.items l.scan
