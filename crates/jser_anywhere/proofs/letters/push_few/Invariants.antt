use Rattle.std.proofs.Common.{◌≡◌, ◌+◌, ◌++◌, ◌≤◌, length, take}
use Rattle.jser_anywhere.proofs.letters.push_few.Given as goal

abbrev pub invariant-bytes : goal.invariant-bytes
invariant-bytes l = length l.fn.kept + length l.bytes ≤ 9217 → l.kept ≡ l.fn.kept ++ take l.byte-index l.bytes
