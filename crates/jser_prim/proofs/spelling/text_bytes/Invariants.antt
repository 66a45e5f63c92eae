use Rattle.std.proofs.Common.{◌≡◌, take}
use Rattle.jser_prim.specs.ModifiedUtf8.{modified_utf8}
use Rattle.jser_prim.proofs.spelling.text_bytes.Given as goal

abbrev pub invariant-loop-unit : goal.invariant-loop-unit
invariant-loop-unit l = l.bytes.items ≡ modified_utf8 (take l.unit-index l.units)
