use Rattle.std.proofs.Common.{◌≡◌, ◌+◌, ◌≤◌, ◌++◌, length, vec_len, vec_capacity}
use Rattle.jser_reader.proofs.machine.take.text_bytes.add_units.Given as goal

abbrev pub invariant-loads : goal.invariant-loads
invariant-loads l = record {
  added : l.fn.name.items ++ l.fn.bytes ≡ l.name.items ++ l.rest;
  room : vec_len l.name + length l.rest ≤ vec_capacity l.name;
}

abbrev pub decreases-loads : goal.decreases-loads
decreases-loads l = length l.rest
