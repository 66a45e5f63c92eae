use Rattle.std.proofs.Common.{◌≡◌, ℕ, ◌<◌, true, take, get_or}
use Rattle.jser_index.proofs.decode.widen_few.Given as goal

abbrev pub invariant-loop-place : goal.invariant-loop-place
invariant-loop-place l = record {
  units : take l.place l.room ≡ take l.place l.bytes;
  narrow : l.narrow ≡ true → (k : ℕ) → k < l.place → get_or l.bytes k 0 < 0x80;
}
