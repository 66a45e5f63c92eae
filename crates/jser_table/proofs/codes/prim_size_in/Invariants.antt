use Rattle.std.proofs.Common.{◌≡◌, ◌<◌, drop, length}
use Rattle.std.specs.Prelude.{slice_get}
use Rattle.jser_table.specs.Codes.{primitive_codes}
use Rattle.jser_table.proofs.codes.prim_size_in.Given as goal

-- the value stands at that place among those that are left
abbrev pub invariant-loop-code : goal.invariant-loop-code
invariant-loop-code l = record {
  there : slice_get (primitive_codes (drop l.code-index l.codes)) l.left ≡ slice_get (primitive_codes l.codes) l.pos;
  inside : l.left < length (primitive_codes (drop l.code-index l.codes));
}
