use Rattle.std.proofs.Common.{◌≡◌, ◌≤◌, ◌+◌, ◌*◌, drop, length}
use Rattle.jser_table.specs.Codes.{primitive_codes, object_count, raw_size}
use Rattle.jser_table.proofs.codes.counts_of.Given as goal

-- what was counted, and what the codes that are left have
abbrev pub invariant-loop-code : goal.invariant-loop-code
invariant-loop-code l = record {
  prims : l.prims + length (primitive_codes (drop l.code-index l.codes)) ≡ length (primitive_codes l.codes);
  values : l.values + object_count (drop l.code-index l.codes) ≡ object_count l.codes;
  raw_bytes : l.raw_bytes + raw_size (primitive_codes (drop l.code-index l.codes)) ≡ raw_size (primitive_codes l.codes);
  few : l.prims + l.values ≤ l.code-index;
  small : l.raw_bytes ≤ l.code-index * 8;
}
