use Rattle.std.proofs.Common.{◌≡◌}
use Rattle.std.specs.Char.Escape.{encode_utf16}
use Rattle.std.specs.List.{flat_map}
use Rattle.jser_prim.proofs.spelling.units_of.Given as goal

abbrev pub invariant-loop-c : goal.invariant-loop-c
invariant-loop-c l = l.units.items ≡ flat_map encode_utf16 l.yielded
