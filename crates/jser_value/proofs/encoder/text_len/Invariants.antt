use Rattle.std.proofs.Common.{◌≡◌, ◌%◌, ◌^◌, length, take}
use Rattle.jser_prim.specs.ModifiedUtf8.{modified_utf8}
use Rattle.jser_value.proofs.encoder.text_len.Given as goal

abbrev pub invariant-loop-unit : goal.invariant-loop-unit
invariant-loop-unit l = l.len ≡ length (modified_utf8 (take l.unit-index l.units)) % 2 ^ 64
