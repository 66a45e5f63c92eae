use Rattle.std.proofs.Common.{◌≡◌, ◌<◌, ℕ, true, take}
use Rattle.std.specs.Prelude.{slice_index}
use Rattle.std.specs.List.{flat_map}
use Rattle.jser_shown.specs.Words.{quoted_unit}
use Rattle.jser_printer.proofs.text.are_plain.Given as goal

abbrev pub invariant-loop-byte : goal.invariant-loop-byte
invariant-loop-byte l = record {
  quoted : l.plain ≡ true → flat_map quoted_unit (take l.byte-index l.bytes) ≡ take l.byte-index l.bytes;
  ascii : l.plain ≡ true → (k : ℕ) → k < l.byte-index → slice_index l.bytes k < 0x80;
}
