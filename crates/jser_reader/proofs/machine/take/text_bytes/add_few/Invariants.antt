use Rattle.std.proofs.Common.{◌≡◌, ◌+◌, ◌-◌, ◌≤◌, ◌++◌, length, take, vec_len, vec_capacity}
use Rattle.jser_reader.proofs.machine.take.text_bytes.add_few.Given as goal

abbrev pub invariant-bytes : goal.invariant-bytes
invariant-bytes l = record {
  added : l.name.items ≡ l.fn.name.items ++ take l.byte-index l.bytes;
  room : vec_len l.name + (length l.bytes - l.byte-index) ≤ vec_capacity l.name;
}
