use Rattle.std.proofs.Common.{take}
use Rattle.jser_reader.specs.TextTakes.{Scanned}
use Rattle.jser_reader.proofs.machine.Machine.scan_name.Given as goal

abbrev pub invariant-bytes : goal.invariant-bytes
invariant-bytes l = Scanned (take l.index l.part) l.fn.self l.self
